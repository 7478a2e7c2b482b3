-- What a call did to the file of a device, `old` before the call and `new` after it, as clauses say it, if the bytes of the
-- file are known. `g` is that of the device's type.
use Rattle.std.specs.Prelude.{◌≡◌, ◌<◌, ◌≤◌, ℕ, Bool, true, List, length, Result, IsErrOf, IfOk}
use Rattle.flac_edit.specs.Device.{Timeline}
use Rattle.flac_edit.specs.declared.device.Device as device
use Rattle.flac_edit.specs.declared.device.DeviceError.{DeviceError}
use Rattle.flac_edit.specs.declared.device.DeviceError.TheVariants.{Failed}

-- this holds of the bytes before the call, and of what a crash at any moment of it leaves
abbrev pub AtEachMoment : {D : Type 0} (g : device.Ghosts D) (old new : D) → ((file : List ℕ) → (before after : Timeline) → Type 0) → Type 0
AtEachMoment g old new Says = g.known old ≡ true → Says (g.seen old) (g.time old) (g.time new)

-- this holds of the bytes before the call and after it
abbrev pub InTheEnd : {D : Type 0} (g : device.Ghosts D) (old new : D) → ((before after : List ℕ) → Type 0) → Type 0
InTheEnd g old new Says = g.known old ≡ true → Says (g.seen old) (g.seen new)

-- `Failed` is returned only if the device failed
abbrev pub FailureIsCounted : {D X : Type 0} (g : device.Ghosts D) (old new : D) → Result X DeviceError → Type 0
FailureIsCounted g old new result = g.known old ≡ true → IsErrOf result Failed → g.faults old < g.faults new

-- if this fault was returned, the device failed
abbrev pub FaultIsCounted : {D : Type 0} (g : device.Ghosts D) (old new : D) → (Returned : Type 0) → Type 0
FaultIsCounted g old new Returned = g.known old ≡ true → Returned → g.faults old < g.faults new

-- the file has as many bytes at least
abbrev pub IsInside : {D : Type 0} (g : device.Ghosts D) → D → (end : ℕ) → Type 0
IsInside g d end = g.known d ≡ true → end ≤ length (g.seen d)

-- what is claimed of a call that did what it was asked for
abbrev pub IfDone : {E : Type 0} → Result Bool E → Type 0 → Type 0
IfDone result Says = IfOk result (λ done. done ≡ true → Says)
