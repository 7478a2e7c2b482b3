-- For proofs of seeking: what a search has passed.
use Rattle.std.specs.Prelude.{◌≡◌, ℕ, Bool, List, [], ◌∷◌, true, false, map, Option, Some, None, Result, Ok, Err}
use Rattle.flac_bits.specs.declared.why.Why.{Why}
use Rattle.flac_bits.specs.declared.why.Why.TheVariants.{Memory}
use Rattle.flac_info.specs.Info.{Info}
use Rattle.flac_frame.specs.Frame.{Frame, first_sample}
use Rattle.flac_native.specs.Item.{frame, fault_pair}
use Rattle.flac_native.specs.Giving.{Stage}
use Rattle.flac_native.specs.declared.fault.Place.{Place}
use Rattle.flac_native.specs.declared.fault.Place.TheVariants as place
use Rattle.flac_native.specs.declared.fault.Fault.{Fault}
use Rattle.flac_native.specs.declared.container.Container as container
use Rattle.flac_native.specs.declared.decoder.Decoder.{Decoder}
use Rattle.flac_reader.specs.Coming.{Comes, FramesCome, IsCalm, HadMemory}
use Rattle.flac_reader.specs.Seeking.{holds, PassedBy, HoldsFirst, Finds}

-- the number of its first sample, if it holds the sample
abbrev pub FirstIfHeld : Info → ℕ → Frame → Option ℕ → Type 0
FirstIfHeld info sample f None = holds info sample f ≡ false
FirstIfHeld info sample f (Some n) = (holds info sample f ≡ true) × (n ≡ first_sample info.greatest_block f)

-- a search ended so; or the stream was refused after frames that do not hold the sample
abbrev pub Searches : {C X : Type 0} → container.Ghosts C → Info → ℕ → List Frame → Option (Place × Why) → Bool → Result X Fault → Stage C → Type 0
Searches g info sample frames end ahead (Ok x) s = Finds g info sample frames end ahead s
Searches g info sample frames end ahead (Err f) s = PassedBy info sample frames × (end ≡ Some (fault_pair f))

-- one frame was passed by; or the first that is to come holds the sample, or there is none, and it comes next
abbrev pub Passes : {C : Type 0} → container.Ghosts C → Info → ℕ → List Frame → Option (Place × Why) → Result (Option ℕ) Fault → Stage C → Type 0
Passes g info sample frames end (Ok None) s = (f : Frame) × (rest : List Frame) × (frames ≡ f ∷ rest) × (holds info sample f ≡ false) × Comes g s (map frame rest) end
Passes g info sample frames end (Ok (Some n)) s = HoldsFirst info sample frames × FramesCome g true s frames end
Passes g info sample frames end (Err f) s = (frames ≡ []) × (end ≡ Some (fault_pair f))

-- more frames were read than can be counted
abbrev pub too_many_frames : Fault
too_many_frames = record { at = place.Frame 18446744073709551615; why = Memory }

-- if memory ran out, the bytes of the source are still known, if they were
abbrev pub KnownAtMemory : {C : Type 0} {g : container.Ghosts C} → (old new : Decoder C g) → Fault → Type 0
KnownAtMemory {g = g} old new f = f.why ≡ Memory → g.known old.container ≡ true → g.known new.container ≡ true

-- ---- the same of all frames that a decoder still has to return, if the source returned no error and memory did not run
-- out

abbrev pub PassesFrame : {C : Type 0} → container.Ghosts C → Info → ℕ → (old new : Stage C) → Result (Option ℕ) Fault → Type 0
PassesFrame g info sample old new result = IsCalm g old new → HadMemory result → (frames : List Frame) (end : Option (Place × Why)) → Comes g old (map frame frames) end → Passes g info sample frames end result new

abbrev pub SearchesFrames : {C X : Type 0} → container.Ghosts C → Info → ℕ → (old new : Stage C) → Result X Fault → Type 0
SearchesFrames g info sample old new result = IsCalm g old new → HadMemory result → (frames : List Frame) (end : Option (Place × Why)) → Comes g old (map frame frames) end → Searches g info sample frames end true result new
