-- For proofs of salvaging: what is held and written of what is left of a stream.
use Rattle.std.specs.Prelude.{◌≡◌, ◌⊎◌, ℕ, ℤ, Bool, true, List, Some}
use Rattle.flac_bits.specs.Bits.{bits_of}
use Rattle.flac_bits.specs.declared.source.Source as source
use Rattle.flac_bits.specs.declared.target.Target as target
use Rattle.flac_meta.specs.declared.block.Block.{Block}
use Rattle.flac_rescue.specs.Placed.{left_text}
use Rattle.flac_rescue.specs.Salvaged.{is_too_long}
use Rattle.flac_rescue.specs.Survey.{IsSurvey}
use Rattle.flac_rescue.specs.declared.salvage.SalvageFault.TheVariants.{TooLong}
use Rattle.flac_rescue.specs.declared.survey.Survey.{Survey}
use Rattle.flac_cli.specs.Asked.{asked_of}
use Rattle.flac_cli.specs.Calls.{HasWritten}
use Rattle.flac_cli.specs.RecodeRefusals.{IsOutside}
use Rattle.flac_cli.specs.Salvages.{fills, IsLeft, OfLeft, Salvages, HasBegunSalvaged, SalvagesInput, HasBegunInput, salvage_refusal, IsSalvageReason, IsInputReason}
use Rattle.flac_cli.specs.Streams.{Tells}
use Rattle.flac_cli.specs.inner.Holding.{view_of, IsHeld}
use Rattle.flac_cli.specs.declared.encode.Encoding.{Encoding}
use Rattle.flac_cli.specs.declared.held_stream.HeldStream.{HeldStream}
use Rattle.flac_cli.specs.declared.recode.RecodeRefusal.{RecodeRefusal}
use Rattle.flac_whole_pages.specs.Left.{IsNativeLeft}
use Rattle.flac_whole_pages.specs.declared.left.Left.{Left}
use Rattle.flac_jobs.specs.declared.salvages.Salvage.{Salvage}

-- ---- these bytes, of which this survey is

-- what is left of them is held
abbrev pub HoldsLeft : (silence : Bool) → (bytes : List ℕ) → Survey → HeldStream → Type 0
HoldsLeft silence bytes survey held =
    (list : List Block) × (channels : List (List ℤ)) × IsLeft silence bytes survey list channels × IsHeld (view_of held) survey.info list channels

-- there would be too much silence; or out of memory, or the target failed
abbrev pub IsTooMuchSilence : (silence : Bool) → Survey → RecodeRefusal → Type 0
IsTooMuchSilence silence survey e = IsOutside e ⊎ ((e ≡ salvage_refusal TooLong) × (is_too_long silence survey ≡ true))

-- this text is the lines of what is missing of what is left in an input
abbrev pub AreLinesOf : (path : List ℕ) → (text : List ℕ) → Left → Type 0
AreLinesOf path text l = (s : Survey) × IsSurvey l.bytes.items s × (text ≡ left_text path l s)

-- the same of the bytes of an input
pub record AreLinesFor (path text input : List ℕ) : Type 0 where
  pub left : Left
  pub native : IsNativeLeft input left
  pub lines : AreLinesOf path text left

-- ---- a target whose bytes are known

-- a stream of what is left of these bytes was written
abbrev pub SalvagesBytes : {T : Type 0} (h : target.Ghosts T) → Encoding → (silence : Bool) → (bytes : List ℕ) → (old new : T) → Type 0
SalvagesBytes h encoding silence bytes old new = h.known old ≡ true → Salvages (asked_of encoding) silence bytes (bits_of (h.sent old)) (bits_of (h.sent new))

-- nothing was written, or a prefix of such a stream
abbrev pub BeginsBytes : {T : Type 0} (h : target.Ghosts T) → Encoding → (silence : Bool) → (bytes : List ℕ) → (old new : T) → Type 0
BeginsBytes h encoding silence bytes old new = h.known old ≡ true → HasBegunSalvaged (asked_of encoding) silence bytes (bits_of (h.sent old)) (bits_of (h.sent new))

-- the same of the bytes of a source, if they are known
abbrev pub SalvagesTo : {S T : Type 0} (g : source.Ghosts S) (h : target.Ghosts T) → Encoding → Salvage → (from : S) (old new : T) → Type 0
SalvagesTo g h encoding s from old new = HasWritten g h from old new (SalvagesInput (asked_of encoding) (fills s.filling))

abbrev pub BeginsTo : {S T : Type 0} (g : source.Ghosts S) (h : target.Ghosts T) → Encoding → Salvage → (from : S) (old new : T) → Type 0
BeginsTo g h encoding s from old new = HasWritten g h from old new (HasBegunInput (asked_of encoding) (fills s.filling))

-- an error, if the source did not fail: the first reason; or out of memory, or the target failed
abbrev pub IsSalvageError : {S : Type 0} (g : source.Ghosts S) → Encoding → Salvage → (from to : S) → RecodeRefusal → Type 0
IsSalvageError g encoding s from to e = Tells g from to → IsOutside e ⊎ IsInputReason (asked_of encoding) (fills s.filling) (g.coming from) (Some e)
