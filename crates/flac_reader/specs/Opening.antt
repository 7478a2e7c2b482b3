-- What a reader returns that was opened over an input.
use Rattle.std.specs.Prelude.{◌≡◌, ℕ, Bool, true, List, [], filter, Option, Some}
use Rattle.std.specs.Borrow.{GName}
use Rattle.flac_bits.specs.Handing.{InputReading}
use Rattle.flac_bits.specs.declared.source.Source as source
use Rattle.flac_bits.specs.declared.why.Why.{Why}
use Rattle.flac_meta.specs.declared.block.Block.{Block}
use Rattle.flac_frame.specs.Frame.{Frame}
use Rattle.flac_native.specs.Stream.{Piece}
use Rattle.flac_native.specs.Coming.{ReadAs}
use Rattle.flac_native.specs.Giving.{items_of, stage_of}
use Rattle.flac_native.specs.declared.fault.Place.{Place}
use Rattle.flac_native.specs.declared.container.Container as container
use Rattle.flac_reader.specs.Kept.{keeps, first_info}
use Rattle.flac_reader.specs.Starting.{frames_start}
use Rattle.flac_reader.specs.Coming.{FramesCome, IsPast, stream_items}
use Rattle.flac_reader.specs.Inputs.{Input}
use Rattle.flac_reader.specs.declared.keep.Keep.{Keep}
use Rattle.flac_reader.specs.declared.reader.Reader.{Reader}

-- The input is read as these parts and this end, which are the marker, these blocks, and these frames.
pub record IsReadAs (r : InputReading Piece Place) (blocks : List Block) (frames : List Frame) (end : Option (Place × Why)) : Type 0 where
  pub parts : List Piece
  pub read : ReadAs r parts end
  pub items : items_of parts ≡ stream_items blocks frames

-- This holds of the blocks, the frames and the end that the input is read as; or, if it has no blocks, of the frames
-- and the end.
abbrev pub OfInput : InputReading Piece Place → (List Block → List Frame → Option (Place × Why) → Type 0) → Type 0
OfInput r holds = (blocks : List Block) (frames : List Frame) (end : Option (Place × Why)) → IsReadAs r blocks frames end → holds blocks frames end

abbrev pub OfFrames : InputReading Piece Place → (List Frame → Option (Place × Why) → Type 0) → Type 0
OfFrames r holds = (frames : List Frame) (end : Option (Place × Why)) → IsReadAs r [] frames end → holds frames end

-- Of the stream that the input is: all wanted blocks are kept, STREAMINFO among them, and its frames are still to come,
-- and then its end or its refusal; the bytes before the first frame are counted as those of a native stream.
pub record Opens {C : Type 0} {g : container.Ghosts C} (r : InputReading Piece Place) (keep : Keep) (reader : Reader C g) : Type 0 where
  pub blocks : OfInput r (λ blocks frames end. reader.blocks.items ≡ filter (keeps keep) blocks)
  pub frames : OfInput r (λ blocks frames end. FramesCome g reader.ahead (stage_of reader.decoder) frames end)
  pub start : OfInput r (λ blocks frames end. reader.start ≡ frames_start blocks)
  pub info : first_info reader.blocks.items ≡ Some reader.info

-- A reader was made over a source that has these counts of errors and goes through these references: it met no error,
-- and if the bytes of the source were known, what comes is known too.
pub record IsOver {C : Type 0} {g : container.Ghosts C} (is_known : Bool) (error_count raised_count : ℕ) (references : List GName) (reader : Reader C g) : Type 0 where
  pub known : is_known ≡ true → g.known (stage_of reader.decoder).container ≡ true
  pub errors : g.errors (stage_of reader.decoder).container ≡ error_count
  pub met : g.met (stage_of reader.decoder).container ≡ raised_count
  pub names : g.names (stage_of reader.decoder).container ≡ references

-- Such a reader was opened, whether the bytes are known or not: STREAMINFO is among the blocks that it keeps, the last
-- metadata block was read, the first frame or the end is read ahead, and no sample was given.
pub record Starts {C : Type 0} {g : container.Ghosts C} (known : Bool) (errors raised : ℕ) (names : List GName) (reader : Reader C g) : Type 0 where
  pub info : first_info reader.blocks.items ≡ Some reader.info
  pub ahead : reader.ahead ≡ true
  pub first : reader.first ≡ 0
  pub next : reader.after ≡ 0
  pub source : IsOver known errors raised names reader
  pub past : IsPast (stage_of reader.decoder)

-- ---- over a source

-- A reader was made over a source: it met no error, and what comes is known if the bytes of the source were.
abbrev pub IsOverSource : {S C : Type 0} {g : container.Ghosts C} → source.Ghosts S → S → Reader C g → Type 0
IsOverSource s over reader = IsOver (s.known over) (s.errors over) (s.raised over) (s.names over) reader

-- A reader was opened over a source that is read so; if its bytes are known, it returns what the input is.
abbrev pub OpensSource : {S C : Type 0} {g : container.Ghosts C} → source.Ghosts S → Input → S → Keep → Reader C g → Type 0
OpensSource s input over keep reader = s.known over ≡ true → Opens (input (s.coming over) (s.after over)) keep reader

-- Such a reader goes through the references of the source, and no error of the source was met.
abbrev pub StartsSource : {S C : Type 0} {g : container.Ghosts C} → source.Ghosts S → S → Reader C g → Type 0
StartsSource s over reader = Starts (s.known over) (s.errors over) (s.raised over) (s.names over) reader
