-- What a comparison says of two inputs, each a native stream (RFC 9639, section 6) or an Ogg stream (section 10.1).
use Rattle.std.specs.Prelude.{◌≡◌, ◌≢◌, ◌⊎◌, true, ℤ, List, Option, Some, None, Result, Ok, Err}
use Rattle.flac_bits.specs.Handing.{InputReading}
use Rattle.flac_bits.specs.declared.source.Source as source
use Rattle.flac_bits.specs.declared.why.Why.{Why}
use Rattle.flac_bits.specs.declared.why.Why.TheVariants.{Memory, NotStreamInfoFirst}
use Rattle.flac_info.specs.Info.{Info}
use Rattle.flac_meta.specs.declared.block.Block.{Block}
use Rattle.flac_frame.specs.Frame.{Frame}
use Rattle.flac_header.specs.declared.subset.Profile.{Profile}
use Rattle.flac_native.specs.Stream.{Piece}
use Rattle.flac_native.specs.Item.{fault_pair}
use Rattle.flac_native.specs.declared.fault.Place.{Place}
use Rattle.flac_native.specs.declared.fault.Place.TheVariants as place
use Rattle.flac_native.specs.declared.fault.Fault.{Fault}
use Rattle.flac_native.specs.declared.container.Container as container
use Rattle.flac_reader.specs.Kept.{first_info}
use Rattle.flac_reader.specs.Inputs.{any_input}
use Rattle.flac_reader.specs.Opening.{IsReadAs}
use Rattle.flac_compare.specs.Samples.{samples_of}
use Rattle.flac_compare.specs.Format.{AreOfOneFormat, SaysFormat}
use Rattle.flac_compare.specs.Compared.{OneBegins, SaysSamples}
use Rattle.flac_compare.specs.declared.difference.Difference.{Difference}
use Rattle.flac_compare.specs.declared.difference.Unread.{Unread}
use Rattle.flac_compare.specs.declared.difference.Unread.TheVariants.{First, Second}

-- what a comparison says of the STREAMINFO of both streams
pub record SaysFormats (blocks others : List Block) (found : Option Difference) : Type 0 where
  pub info : Info
  pub other : Info
  pub first : first_info blocks ≡ Some info
  pub second : first_info others ≡ Some other
  pub says : SaysFormat info other found

-- one of two streams is refused at this place, for this reason, before any difference; or it has no STREAMINFO
abbrev pub IsFaultOf : (xs ys : List (List ℤ)) → List Block → Option (Place × Why) → Fault → Type 0
IsFaultOf xs ys blocks end f = (OneBegins xs ys × (end ≡ Some (fault_pair f))) ⊎ ((f ≡ record { at = place.Block 0; why = NotStreamInfoFirst }) × (first_info blocks ≡ None))

-- what it says of two streams of these blocks and frames, and these ends
abbrev pub SaysStreams : (blocks others : List Block) (frames rows : List Frame) (end stop : Option (Place × Why)) → Result (Option Difference) Unread → Type 0
SaysStreams blocks others frames rows end stop (Ok found) = SaysFormats blocks others found × SaysSamples (samples_of frames) (samples_of rows) end stop (Ok found)
SaysStreams blocks others frames rows end stop (Err (First f)) = f.why ≢ Memory → IsFaultOf (samples_of frames) (samples_of rows) blocks end f
SaysStreams blocks others frames rows end stop (Err (Second f)) = f.why ≢ Memory → IsFaultOf (samples_of frames) (samples_of rows) others stop f

-- and of two inputs, as they are read
abbrev pub ComparesInputs : (r s : InputReading Piece Place) → Result (Option Difference) Unread → Type 0
ComparesInputs r s result = (blocks others : List Block) (frames rows : List Frame) (end stop : Option (Place × Why)) → IsReadAs r blocks frames end → IsReadAs s others rows stop → SaysStreams blocks others frames rows end stop result

-- the bytes of a source are known, and it returned no error in the call
abbrev pub ToldAll : {S : Type 0} (g : source.Ghosts S) (old new : S) → Type 0
ToldAll g old new = (g.known old ≡ true) × (g.errors new ≡ g.errors old) × (g.raised new ≡ g.raised old)

-- how the bytes of a source are read
abbrev pub input_of : {S : Type 0} → source.Ghosts S → Profile → S → InputReading Piece Place
input_of g profile s = any_input profile (g.coming s) (g.after s)

-- Two inputs are streams of the same format and of the same samples.
pub record AreSame (r s : InputReading Piece Place) : Type 0 where
  pub blocks : List Block
  pub others : List Block
  pub frames : List Frame
  pub rows : List Frame
  pub info : Info
  pub other : Info
  pub first : IsReadAs r blocks frames None
  pub second : IsReadAs s others rows None
  pub info_first : first_info blocks ≡ Some info
  pub info_second : first_info others ≡ Some other
  pub format : AreOfOneFormat info other
  pub samples : samples_of frames ≡ samples_of rows

-- ---- two sources, each before and after a call that compares them, in which neither failed

-- what is said of the streams that they give
abbrev pub ComparesBoth : {S T : Type 0} → (g : source.Ghosts S) → (h : source.Ghosts T) → Profile → (first next : S) → (second later : T) → Result (Option Difference) Unread → Type 0
ComparesBoth g h profile first next second later result = ToldAll g first next → ToldAll h second later → ComparesInputs (input_of g profile first) (input_of h profile second) result

-- these are of the same samples
abbrev pub AreBothSame : {S T : Type 0} → (g : source.Ghosts S) → (h : source.Ghosts T) → Profile → (first next : S) → (second later : T) → Type 0
AreBothSame g h profile first next second later = ToldAll g first next → ToldAll h second later → AreSame (input_of g profile first) (input_of h profile second)
