-- Why a stream is not opened.
use Rattle.std.specs.Prelude.{◌≡◌, ◌≢◌, ◌≤◌, ◌⊎◌, ℕ, Bool, true, false, List, [], Option, Some, None}
use Rattle.flac_bits.specs.State.{Rises}
use Rattle.flac_bits.specs.Handing.{InputReading}
use Rattle.flac_bits.specs.Reasons.{of_output}
use Rattle.flac_bits.specs.declared.source.Source as source
use Rattle.flac_bits.specs.declared.why.Why.{Why}
use Rattle.flac_bits.specs.declared.why.Why.TheVariants.{Memory, Read, NotStreamInfoFirst}
use Rattle.flac_meta.specs.declared.block.Block.{Block}
use Rattle.flac_frame.specs.Frame.{Frame}
use Rattle.flac_native.specs.Stream.{Piece}
use Rattle.flac_native.specs.Item.{fault_pair}
use Rattle.flac_native.specs.Giving.{Stage}
use Rattle.flac_native.specs.declared.fault.Place.{Place}
use Rattle.flac_native.specs.declared.fault.Place.TheVariants as place
use Rattle.flac_native.specs.declared.fault.Fault.{Fault}
use Rattle.flac_native.specs.declared.fault.Refused.{Refused}
use Rattle.flac_native.specs.declared.container.Container as container
use Rattle.flac_reader.specs.Kept.{first_info}
use Rattle.flac_reader.specs.Coming.{IsCalm, OfItems}
use Rattle.flac_reader.specs.Inputs.{Input}
use Rattle.flac_reader.specs.Opening.{OfInput}

-- The fault is that of the stream, which is refused there before its first frame; or the metadata is whole and has no
-- STREAMINFO (RFC 9639, section 8.2).
abbrev pub IsRefusal : List Block → List Frame → Option (Place × Why) → Fault → Type 0
IsRefusal blocks frames end f = ((frames ≡ []) × (end ≡ Some (fault_pair f))) ⊎ ((f ≡ record { at = place.Block 0; why = NotStreamInfoFirst }) × (first_info blocks ≡ None))

-- The metadata was refused from old on, and the decoder is in the state `last`: an error of the device raised the
-- count, and without one, and with memory, what was to come is refused in this way. No error of the output is met, and
-- the references that the container goes through stay.
pub record RefusedHead {C : Type 0} (g : container.Ghosts C) (old last : Stage C) (f : Fault) : Type 0 where
  pub kept : g.errors old.container ≤ g.errors last.container
  pub risen : f.why ≡ Read → Rises (g.met old.container) (g.met last.container)
  pub output : of_output f.why ≡ false
  pub names : g.names last.container ≡ g.names old.container
  pub refused : IsCalm g old last → f.why ≢ Memory → OfItems g old (λ blocks frames end. IsRefusal blocks frames end f)

-- The input was not opened for this reason. An error of the source raised its counts, and none of the output is met;
-- without one, if the input is known and memory did not run out, it is refused in this way.
pub record RefusesInput (r : InputReading Piece Place) (known : Bool) (errors raised errors_left raised_left : ℕ) (f : Fault) : Type 0 where
  pub kept : errors ≤ errors_left
  pub risen : f.why ≡ Read → Rises raised raised_left
  pub output : of_output f.why ≡ false
  pub refused : known ≡ true → errors_left ≡ errors → raised_left ≡ raised → f.why ≢ Memory → OfInput r (λ blocks frames end. IsRefusal blocks frames end f)

-- A source that is read so was not opened, and is returned with the reason.
abbrev pub RefusesSource : {S : Type 0} → source.Ghosts S → Input → S → Refused S → Type 0
RefusesSource s input over x = RefusesInput (input (s.coming over) (s.after over)) (s.known over) (s.errors over) (s.raised over) (s.errors x.left) (s.raised x.left) x.fault
