-- What the calls of a device do to its file, and what a crash may leave.
use Rattle.std.specs.Prelude.{◌<◌, ◌≡◌, ◌⊎◌, ℕ, ◌+◌, ◌%◌, ◌≤◌, List, ◌++◌, length, take, drop, Result, IsErrOf}
use Rattle.flac_edit.specs.declared.device.DeviceError.{DeviceError}
use Rattle.flac_edit.specs.declared.device.DeviceError.TheVariants.{Failed}

-- A file in time. Each call takes some moments; a crash at a moment leaves one of the contents that may be left then.
pub record Timeline : Type 1 where
  -- the number of this moment, which does not fall
  pub moment : ℕ
  -- what a crash at this moment may leave
  pub may_leave : List ℕ → Type 0
  -- what a crash at some moment from that one on might have left, during a call or between two
  pub left_since : ℕ → List ℕ → Type 0

-- ---- one write

-- these bytes are inside the file at this offset
abbrev pub Fits : ℕ → List ℕ → List ℕ → Type 0
Fits at bytes file = at + length bytes ≤ length file

-- new is old with these bytes at this offset
abbrev pub Holds : List ℕ → ℕ → List ℕ → List ℕ → Type 0
Holds old at bytes new = new ≡ take at old ++ (bytes ++ drop (at + length bytes) old)

-- After a write of n bytes over others that a crash cuts short: any bytes in the range, the same elsewhere. So each byte
-- of the write may be stored or not.
pub record Torn (at n : ℕ) (old new : List ℕ) : Type 0 where
  pub before : take at new ≡ take at old
  pub after : drop (at + n) new ≡ drop (at + n) old
  pub long : length new ≡ length old

-- after a write that is stored as a whole or not at all
abbrev pub Whole : ℕ → List ℕ → List ℕ → List ℕ → Type 0
Whole at bytes old new = (new ≡ old) ⊎ Holds old at bytes new

-- four bytes that are in one sector of 512 bytes
pub record IsWord (at n : ℕ) : Type 0 where
  pub four : n ≡ 4
  pub sector : at % 512 ≤ 508

-- ---- crashes

-- each new outcome of a crash is an old outcome after a step
abbrev pub Follows : (List ℕ → List ℕ → Type 0) → Timeline → Timeline → Type 0
Follows step old new = (c : List ℕ) → new.may_leave c → (d : List ℕ) × old.may_leave d × step d c

-- a crash now leaves this and nothing else: it is stored
abbrev pub Only : List ℕ → Timeline → Type 0
Only file now = (c : List ℕ) → now.may_leave c → c ≡ file

-- Time goes on: a crash since t might have left what it might have left before, or what it may leave now.
pub record Elapses (old new : Timeline) : Type 0 where
  pub later : old.moment ≤ new.moment
  pub nothing_else : (t : ℕ) (c : List ℕ) → t ≤ old.moment → new.left_since t c → old.left_since t c ⊎ new.may_leave c
  pub keeps : (t : ℕ) (c : List ℕ) → t ≤ old.moment → old.left_since t c → new.left_since t c

-- A crash at any moment from old to new leaves a file that has P.
pub record LeavesOnly (old new : Timeline) (P : List ℕ → Type 0) : Type 0 where
  pub later : old.moment ≤ new.moment
  pub each : (c : List ℕ) → new.left_since old.moment c → P c
  -- for a run that began earlier
  pub before : (t : ℕ) (c : List ℕ) → t ≤ old.moment → new.left_since t c → old.left_since t c ⊎ P c

-- `Failed` is returned only if the device has failed since
pub record HasCause {T : Type 0} (before now : ℕ) (result : Result T DeviceError) : Type 0 where
  pub later : before ≤ now
  pub failed : IsErrOf result Failed → before < now

-- ---- one write of a run

-- a crash at any moment leaves the bytes of a file, or what a write of n bytes that is cut short makes of them
abbrev pub LeavesTorn : (at n : ℕ) → (file : List ℕ) → (old new : Timeline) → Type 0
LeavesTorn at n file old new = LeavesOnly old new (Torn at n file)

-- of four bytes in one sector: the bytes of the file, or those with all four
abbrev pub LeavesWhole : (at : ℕ) → (bytes file : List ℕ) → (old new : Timeline) → Type 0
LeavesWhole at bytes file old new = IsWord at (length bytes) → LeavesOnly old new (Whole at bytes file)

-- the same of what a crash may leave at one moment
abbrev pub FollowsWhole : (at : ℕ) → (bytes : List ℕ) → (old new : Timeline) → Type 0
FollowsWhole at bytes old new = IsWord at (length bytes) → Follows (Whole at bytes) old new
