-- For proofs: what is left of the frame that was read last, and what comes after it.
use Rattle.std.specs.Prelude.{◌≡◌, ◌≢◌, ℕ, ◌-◌, Bool, true, false, ℤ, List, [], ◌++◌, length, Option, Some, None, Result, Ok, Err}
use Rattle.flac_bits.specs.declared.why.Why.{Why}
use Rattle.flac_bits.specs.declared.why.Why.TheVariants.{Memory}
use Rattle.flac_frame.specs.Frame.{Frame}
use Rattle.flac_native.specs.Item.{Item, metadata, frame, fault_pair}
use Rattle.flac_native.specs.Giving.{MetNone, stage_of}
use Rattle.flac_native.specs.declared.fault.Place.{Place}
use Rattle.flac_native.specs.declared.fault.Fault.{Fault}
use Rattle.flac_native.specs.declared.container.Container as container
use Rattle.flac_reader.specs.Coming.{FramesCome, IsCalm}
use Rattle.flac_reader.specs.Giving.{last_frame}
use Rattle.flac_reader.specs.declared.reader.Reader.{Reader}
use Rattle.flac_compare.specs.Samples.{samples_from, samples_of}
use Rattle.flac_compare.specs.Compared.{counted, ComparesFrames}
use Rattle.flac_compare.specs.declared.difference.Difference.{Difference}
use Rattle.flac_compare.specs.declared.difference.Unread.{Unread}

-- the metadata of a reader stays, and so do the references that it goes through
pub record Stays {C : Type 0} {g : container.Ghosts C} (old new : Reader C g) : Type 0 where
  pub blocks : new.blocks ≡ old.blocks
  pub info : new.info ≡ old.info
  pub start : new.start ≡ old.start
  pub names : g.names (stage_of new.decoder).container ≡ g.names (stage_of old.decoder).container

-- no error of the device was met, and what comes stays known
abbrev pub MeetsNone : {C : Type 0} {g : container.Ghosts C} → Reader C g → Reader C g → Type 0
MeetsNone {g = g} old new = MetNone g (stage_of old.decoder).container (stage_of new.decoder).container

abbrev pub IsCalmIn : {C : Type 0} {g : container.Ghosts C} → Reader C g → Reader C g → Type 0
IsCalmIn {g = g} old new = IsCalm g (stage_of old.decoder) (stage_of new.decoder)

abbrev pub IsKnown : {C : Type 0} {g : container.Ghosts C} → Reader C g → Type 0
IsKnown {g = g} reader = g.known (stage_of reader.decoder).container ≡ true

-- the last inter-channel samples of the frame that was read last
abbrev pub left_in : Option Item → (left : ℕ) → List (List ℤ)
left_in None left = []
left_in (Some (metadata b)) left = []
left_in (Some (frame f)) left = samples_from f.channels left (f.size - left)

-- these come: what is left of that frame, and the frames after it, and then this end
pub record SamplesLeft {C : Type 0} {g : container.Ghosts C} (reader : Reader C g) (left : ℕ) (samples : List (List ℤ)) (end : Option (Place × Why)) : Type 0 where
  pub frames : List Frame
  pub split : samples ≡ left_in (last_frame reader) left ++ samples_of frames
  pub come : FramesCome g reader.ahead (stage_of reader.decoder) frames end

-- a call went to the next frame if nothing was left; or to the end, or is refused
abbrev pub Enters : {C : Type 0} {g : container.Ghosts C} → Reader C g → ℕ → Reader C g → ℕ → Result Bool Fault → Type 0
Enters old left new more (Ok true) = IsKnown old → (samples : List (List ℤ)) (end : Option (Place × Why)) → SamplesLeft old left samples end → SamplesLeft new more samples end
Enters old left new more (Ok false) = IsKnown old → (samples : List (List ℤ)) (end : Option (Place × Why)) → SamplesLeft old left samples end → (samples ≡ []) × (end ≡ None) × SamplesLeft new more samples end
Enters old left new more (Err f) = IsCalmIn old new → f.why ≢ Memory → (samples : List (List ℤ)) (end : Option (Place × Why)) → SamplesLeft old left samples end → (samples ≡ []) × (end ≡ Some (fault_pair f))

-- all that come were counted, to the end; or a refusal came
abbrev pub CountsRest : {C : Type 0} {g : container.Ghosts C} → Reader C g → ℕ → Reader C g → Result ℕ Fault → Type 0
CountsRest old left new (Ok n) = IsKnown old → (samples : List (List ℤ)) (end : Option (Place × Why)) → SamplesLeft old left samples end → (n ≡ counted (length samples)) × (end ≡ None)
CountsRest old left new (Err f) = IsCalmIn old new → f.why ≢ Memory → (samples : List (List ℤ)) (end : Option (Place × Why)) → SamplesLeft old left samples end → end ≡ Some (fault_pair f)

-- the samples of two streams are compared, if neither device failed
abbrev pub ComparesInCalm : {C D : Type 0} {g : container.Ghosts C} {h : container.Ghosts D} → (first next : Reader C g) → (second later : Reader D h) → Result (Option Difference) Unread → Type 0
ComparesInCalm first next second later result = IsCalmIn first next → IsCalmIn second later → ComparesFrames first second result
