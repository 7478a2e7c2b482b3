-- For proofs: what a comparison says of what a reader has to give, and of an input.
use Rattle.std.specs.Prelude.{◌≡◌, ◌≢◌, List, ℤ, Option, Some, Result, Ok, Err}
use Rattle.flac_bits.specs.Handing.{InputReading}
use Rattle.flac_bits.specs.declared.source.Source as source
use Rattle.flac_bits.specs.declared.why.Why.{Why}
use Rattle.flac_bits.specs.declared.why.Why.TheVariants.{Memory}
use Rattle.flac_info.specs.Info.{Info}
use Rattle.flac_meta.specs.declared.block.Block.{Block}
use Rattle.flac_frame.specs.Frame.{Frame}
use Rattle.flac_native.specs.Stream.{Piece}
use Rattle.flac_native.specs.Item.{fault_pair}
use Rattle.flac_native.specs.Giving.{stage_of}
use Rattle.flac_native.specs.declared.fault.Place.{Place}
use Rattle.flac_native.specs.declared.container.Container as container
use Rattle.flac_reader.specs.Kept.{first_info}
use Rattle.flac_reader.specs.Coming.{FramesCome, IsCalm}
use Rattle.flac_reader.specs.Opening.{IsReadAs}
use Rattle.flac_reader.specs.declared.reader.Reader.{Reader}
use Rattle.flac_compare.specs.Samples.{samples_of}
use Rattle.flac_compare.specs.Format.{SaysFormat}
use Rattle.flac_compare.specs.Compared.{OneBegins, SaysSamples}
use Rattle.flac_compare.specs.Streams.{IsFaultOf, ToldAll, input_of}
use Rattle.flac_compare.specs.declared.difference.Difference.{Difference}
use Rattle.flac_compare.specs.declared.difference.Unread.{Unread}
use Rattle.flac_compare.specs.declared.difference.Unread.TheVariants.{First, Second}
use Rattle.flac_header.specs.declared.subset.Profile.{Profile}

abbrev pub SaysWith : Info → (others : List Block) (xs ys : List (List ℤ)) (end stop : Option (Place × Why)) → Result (Option Difference) Unread → Type 0
SaysWith info others xs ys end stop (Ok found) = ((k : Info) × (first_info others ≡ Some k) × SaysFormat info k found) × SaysSamples xs ys end stop (Ok found)
SaysWith info others xs ys end stop (Err (First f)) = f.why ≢ Memory → OneBegins xs ys × (end ≡ Some (fault_pair f))
SaysWith info others xs ys end stop (Err (Second f)) = f.why ≢ Memory → IsFaultOf xs ys others stop f

abbrev pub ComparesWith : {C : Type 0} {g : container.Ghosts C} → Reader C g → InputReading Piece Place → Result (Option Difference) Unread → Type 0
ComparesWith {g = g} reader s result = (frames rows : List Frame) (end stop : Option (Place × Why)) (others : List Block)
    → FramesCome g reader.ahead (stage_of reader.decoder) frames end → IsReadAs s others rows stop → SaysWith reader.info others (samples_of frames) (samples_of rows) end stop result

-- the same of an input that is still to be opened, if neither device failed
abbrev pub ComparesWithInput : {C S : Type 0} {g : container.Ghosts C} → (h : source.Ghosts S) → Profile → (first next : Reader C g) → (second later : S) → Result (Option Difference) Unread → Type 0
ComparesWithInput {g = g} h profile first next second later result = IsCalm g (stage_of first.decoder) (stage_of next.decoder) → ToldAll h second later → ComparesWith first (input_of h profile second) result
