-- An Ogg stream that is encoded block by block, and whose first page is written last (RFC 9639, section 10.1; RFC 3533).
use Rattle.std.specs.Prelude.{◌≡◌, ◌<◌, ◌≤◌, ℕ, ◌+◌, ◌*◌, ◌^◌, min, ℤ, Bool, true, cond, List, [], ◌++◌, length, replicate, slice_index_or, Option, Some, None}
use Rattle.std.specs.List.{All}
use Rattle.flac_bits.specs.Bits.{bits_of}
use Rattle.flac_bits.specs.declared.target.Target as target
use Rattle.flac_meta.specs.Listed.{list_fault, info_seen}
use Rattle.flac_meta.specs.Valid.{AllAre, FitsFields}
use Rattle.flac_meta.specs.declared.block.Block.{Block}
use Rattle.flac_subframe.specs.declared.format.linear.LinearPredictor.{LinearPredictor}
use Rattle.flac_frame.specs.Audio.{Sound, samples_each}
use Rattle.flac_native.specs.Given.{Cut, with_found, frame_of}
use Rattle.flac_native.specs.Message.{sample_width, rows_bytes}
use Rattle.flac_native.specs.Writing.{SpellsFrame, AreSizes}
use Rattle.flac_native.specs.declared.fault.EncodeFault.TheVariants.{Spent}
use Rattle.flac_pages.specs.declared.writing.PacketKind.TheVariants.{Header}
use Rattle.flac_pages.specs.Placed.{Placed, IsPlaced}
use Rattle.flac_ogg.specs.Held.{ArePages}
use Rattle.flac_ogg.specs.Listed.{texts_of, kinds_in}
use Rattle.flac_ogg.specs.Native.{packet_spellings}
use Rattle.flac_ogg.specs.Writing.{header_count, frames_to, begins_with_comment, EncodesOgg}
use Rattle.flac_predict.specs.Found.{AllBegin}
use Rattle.flac_predict.specs.declared.search.Search.{Search}
use Rattle.flac_encoder.specs.Pushing.{trying, searching, shape_fault, open_info}
use Rattle.flac_encoder.specs.PushingOgg.{PushedOgg}
use Rattle.md5.specs.Md5.{Holds}
use Rattle.flac_draft.specs.Table.{no_table}
use Rattle.flac_draft.specs.Draft.{Draft, IsNextBlock, HasAll, AreLeastFound, sound_for, plan_for}
use Rattle.flac_draft.specs.declared.draft_fault.DraftFault.{DraftFault}
use Rattle.flac_draft.specs.declared.draft_fault.DraftFault.TheVariants.{Encode}

-- ---- the encoder

-- What a draft of a native stream has, without a seek table; and the serial number of the stream, the number of the page
-- that the next packet begins, and the bytes of the pages of the packet that is held back: as they are if more packets
-- follow, and as they are if the stream ends.
pub record OggDraft (S : Type 0) : Type 0 where
  pub draft : Draft S
  pub serial : ℕ
  pub sequence : ℕ
  pub middle : List ℕ
  pub last : List ℕ

-- the same without what is known of the samples so far
abbrev pub pushed_ogg : {S : Type 0} → OggDraft S → PushedOgg S
pushed_ogg d = record { pushed = d.draft.pushed; serial = d.serial; sequence = d.sequence; middle = d.middle; last = d.last }

-- these predictors are tried from now on
abbrev pub trying_draft : {S : Type 0} → OggDraft S → List LinearPredictor → OggDraft S
trying_draft d ps = record d { draft = record d.draft { pushed = trying d.draft.pushed ps } }

-- predictors are sought for each block from now on, or no longer
abbrev pub searching_draft : {S : Type 0} → OggDraft S → Option Search → OggDraft S
searching_draft d search = record d { draft = record d.draft { pushed = searching d.draft.pushed search } }

-- ---- what was gathered

-- The blocks that were pushed are the first ones of these samples, and these are their frames, of which the draft has the
-- number, the sizes and the digest.
pub record Gathers {S : Type 0} (samples : List (List ℤ)) (frames : List (List Bool)) (d : Draft S) : Type 0 where
  pub shape : shape_fault d.pushed.shape ≡ None
  pub listed : list_fault info_seen d.list ≡ None
  pub fields : AllAre FitsFields d.list
  pub channels : length samples ≡ d.pushed.shape.channels
  pub many : length frames ≡ d.pushed.number
  pub few : d.pushed.number ≤ 2 ^ 31
  pub each : (i : ℕ) → i < length frames → SpellsFrame (sound_for d samples) (frame_of d.pushed.shape.block_size (sound_for d samples) i) (slice_index_or frames i [])
  pub least : AreLeastFound d.pushed.search d.pushed.predictors d.pushed.shape.block_size (sound_for d samples) frames
  pub sizes : AreSizes frames d.least d.greatest
  pub count : d.pushed.samples ≡ min (samples_each samples) (d.pushed.shape.block_size * d.pushed.number)
  pub digest : Holds d.hasher (rows_bytes (sample_width d.pushed.shape.bits) samples d.pushed.samples 0)

-- The target was sent, after `before`, these pages: with those of the packet that is held back they are the pages of the
-- packets of STREAMINFO, which states only the format, of the blocks, and of the frames.
pub record OggDrafts {S : Type 0} (g : target.Ghosts S) (samples : List (List ℤ)) (before : List Bool) (d : OggDraft S) : Type 0 where
  pub frames : List (List Bool)
  pub gathers : Gathers samples frames d.draft
  pub table : d.draft.table ≡ no_table
  pub comment : begins_with_comment d.draft.list ≡ true
  pub small : d.serial < 2 ^ 32
  pub packets : List Placed
  pub texts : texts_of packets ≡ packet_spellings (header_count (length d.draft.list)) (open_info d.draft.pushed.shape) d.draft.list frames
  pub kinds : kinds_in packets ≡ replicate (length d.draft.list + 1) Header ++ frames_to d.draft.pushed.shape.block_size (samples_each samples) d.draft.pushed.number
  pub good : All IsPlaced packets
  pub written : List Bool
  pub pages : ArePages d.serial packets written (bits_of d.middle) (bits_of d.last) d.sequence
  pub start : length before ≡ 8 * d.draft.start
  pub sent : bits_of (g.sent d.draft.pushed.target) ≡ before ++ written

-- It is so at first, if the bytes of the target are known.
abbrev pub BeginsOggDraft : {S : Type 0} → target.Ghosts S → (old : S) → OggDraft S → Type 0
BeginsOggDraft g old d = g.known old ≡ true → (samples : List (List ℤ)) → length samples ≡ d.draft.pushed.shape.channels → OggDrafts g samples (bits_of (g.sent old)) d

-- It is still so after the next block.
abbrev pub GoesOnOgg : {S : Type 0} → target.Ghosts S → List (List ℤ) → (old new : OggDraft S) → Type 0
GoesOnOgg g block old new =
    g.known old.draft.pushed.target ≡ true → (samples : List (List ℤ)) (before : List Bool) → OggDrafts g samples before old → IsNextBlock old.draft samples block → OggDrafts g samples before new

-- It is still so if something else is tried before the first block.
abbrev pub StaysOggDraft : {S : Type 0} → target.Ghosts S → (old new : OggDraft S) → Type 0
StaysOggDraft g old new = old.draft.pushed.number ≡ 0 → (samples : List (List ℤ)) (before : List Bool) → OggDrafts g samples before old → OggDrafts g samples before new

-- ---- the whole

-- What was written after `before` is what `encode_ogg` writes of what was given by a plan; if predictors were sought, by one
-- that has lists for the planes of each frame, of which each begins with the predictors that were set.
abbrev pub EncodesOggFound : Option Search → (serial : ℕ) → Cut → List Block → Sound → (before after : List Bool) → Type 0
EncodesOggFound None serial p list a before after = EncodesOgg serial p list a before after
EncodesOggFound (Some search) serial p list a before after =
    (found : List (List (List LinearPredictor))) × AllBegin p.predictors found × EncodesOgg serial (with_found p found) list a before after

-- The target has the whole stream of the samples of which all blocks were pushed.
abbrev pub FinishesOgg : {S : Type 0} → target.Ghosts S → OggDraft S → S → Type 0
FinishesOgg g d new =
    g.known d.draft.pushed.target ≡ true → (samples : List (List ℤ)) (before : List Bool) → OggDrafts g samples before d → HasAll d.draft samples
    → EncodesOggFound d.draft.pushed.search d.serial (plan_for d.draft samples) d.draft.list (sound_for d.draft samples) before (bits_of (g.sent new))

-- Why it is not finished, if so: the target failed before.
abbrev pub ogg_finish_fault : {S : Type 0} → OggDraft S → Option DraftFault
ogg_finish_fault d = cond d.draft.pushed.spent (Some (Encode Spent)) None
