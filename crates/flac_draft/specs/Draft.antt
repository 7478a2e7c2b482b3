-- A stream that is encoded block by block, and whose head is written last.
use Rattle.std.specs.Prelude.{◌≡◌, ◌<◌, ◌≤◌, ℕ, ◌+◌, ◌*◌, ◌/◌, ◌^◌, min, ℤ, Bool, true, not, cond, List, [], ◌∷◌, ◌++◌, length, slice_index_or, Option, Some, None}
use Rattle.flac_bits.specs.Bits.{bits_of}
use Rattle.flac_bits.specs.Forms.{joined}
use Rattle.flac_bits.specs.Items.{Stream}
use Rattle.flac_bits.specs.declared.target.Target as target
use Rattle.flac_bits.specs.declared.why.Why.TheVariants.{Truncated}
use Rattle.flac_meta.specs.Listed.{list_fault, info_seen}
use Rattle.flac_meta.specs.Valid.{AllAre, FitsFields}
use Rattle.flac_meta.specs.declared.block.Block.{Block}
use Rattle.flac_subframe.specs.declared.format.linear.LinearPredictor.{LinearPredictor}
use Rattle.flac_frame.specs.Audio.{Sound, samples_each}
use Rattle.flac_native.specs.Decoding.{beginning}
use Rattle.flac_native.specs.Given.{Cut, cut_in, with_predictors, with_found, blocks_in, frame_of, given}
use Rattle.flac_native.specs.Message.{sample_width, rows_bytes}
use Rattle.flac_native.specs.Seeking.{points_of, table_of}
use Rattle.flac_native.specs.Stream.{grammar, opening}
use Rattle.flac_native.specs.Writing.{SpellsFrame, AreFrames, AreSizes, Encodes, head_spelling, stream_spelling}
use Rattle.flac_native.specs.declared.fault.EncodeFault.TheVariants.{Spent, Write}
use Rattle.flac_predict.specs.Found.{AllBegin}
use Rattle.flac_predict.specs.declared.search.Search.{Search}
use Rattle.flac_encoder.specs.Pushing.{Pushed, Fails, shape_fault, open_info, sound_of, SpellsLeastFound}
use Rattle.md5.specs.Md5.{Holds}
use Rattle.md5.specs.declared.Md5.{Md5}
use Rattle.flac_draft.specs.Table.{Table, table_fault, with_place, takes}
use Rattle.flac_draft.specs.declared.draft_fault.DraftFault.{DraftFault}
use Rattle.flac_draft.specs.declared.draft_fault.DraftFault.TheVariants.{Encode, OtherTotal}

-- ---- the encoder

-- The blocks that were pushed, and the target; the blocks after STREAMINFO; the samples so far as the input of a digest;
-- the smallest and the largest frame in bytes, 0 if there is none; how many bytes the target had been sent before; and the
-- seek table.
pub record Draft (S : Type 0) : Type 0 where
  pub pushed : Pushed S
  pub list : List Block
  pub hasher : Md5
  pub least : ℕ
  pub greatest : ℕ
  pub start : ℕ
  pub table : Table

-- ---- the samples

-- samples of the format of an encoder, channel by channel
abbrev pub sound_for : {S : Type 0} → Draft S → List (List ℤ) → Sound
sound_for d samples = sound_of d.pushed.shape samples

-- they are cut into blocks of its block size, with its seek points
abbrev pub cut_for : {S : Type 0} → Draft S → List (List ℤ) → Cut
cut_for d samples = cut_in d.pushed.shape.profile d.pushed.shape.block_size (sound_for d samples) d.table.every

abbrev pub plan_for : {S : Type 0} → Draft S → List (List ℤ) → Cut
plan_for d samples = with_predictors (cut_for d samples) d.pushed.predictors

-- they are as many as were stated, if there is a seek table
abbrev pub AreStated : {S : Type 0} → Draft S → List (List ℤ) → Type 0
AreStated d samples = 0 < d.table.every → samples_each samples ≡ d.table.total

-- this is the block that follows those that were pushed
pub record IsNextBlock {S : Type 0} (d : Draft S) (samples block : List (List ℤ)) : Type 0 where
  pub some : d.pushed.shape.block_size * d.pushed.number < samples_each samples
  pub is : block ≡ (frame_of d.pushed.shape.block_size (sound_for d samples) d.pushed.number).channels

-- as many blocks were pushed as the samples have
abbrev pub HasAll : {S : Type 0} → Draft S → List (List ℤ) → Type 0
HasAll d samples = d.pushed.number ≡ blocks_in d.pushed.shape.block_size (samples_each samples)

-- ---- what was sent

-- each of these frames is a shortest one of its block, over these predictors and what a search finds after them
abbrev pub AreLeastFound : Option Search → List LinearPredictor → (block_size : ℕ) → Sound → List (List Bool) → Type 0
AreLeastFound sought ps block_size a frames = (i : ℕ) → i < length frames → SpellsLeastFound sought ps a (frame_of block_size a i) (slice_index_or frames i [])

-- how many bytes frames have
abbrev pub bytes_in : List (List Bool) → ℕ
bytes_in [] = 0
bytes_in (t ∷ ts) = length t / 8 + bytes_in ts

-- The blocks that were pushed are the first ones of these samples, and the target was sent, after `before`, a stream of
-- them whose STREAMINFO states only the format, and whose seek table, if there is one, names no frame. The points that the
-- draft has are those of the frames.
pub record Drafts {S : Type 0} (g : target.Ghosts S) (samples : List (List ℤ)) (before : List Bool) (d : Draft S) : Type 0 where
  pub shape : shape_fault d.pushed.shape ≡ None
  pub listed : list_fault info_seen d.list ≡ None
  pub fields : AllAre FitsFields d.list
  pub table : table_fault d.pushed.shape d.list d.table ≡ None
  pub channels : length samples ≡ d.pushed.shape.channels
  pub frames : List (List Bool)
  pub many : length frames ≡ d.pushed.number
  pub few : d.pushed.number ≤ 2 ^ 31
  pub each : (i : ℕ) → i < length frames → SpellsFrame (sound_for d samples) (frame_of d.pushed.shape.block_size (sound_for d samples) i) (slice_index_or frames i [])
  pub least : AreLeastFound d.pushed.search d.pushed.predictors d.pushed.shape.block_size (sound_for d samples) frames
  pub sizes : AreSizes frames d.least d.greatest
  pub count : d.pushed.samples ≡ min (samples_each samples) (d.pushed.shape.block_size * d.pushed.number)
  pub digest : Holds d.hasher (rows_bytes (sample_width d.pushed.shape.bits) samples d.pushed.samples 0)
  pub bytes : d.table.bytes ≡ bytes_in frames
  pub points : AreStated d samples → d.table.points ≡ points_of (cut_for d samples) frames
  pub start : length before ≡ 8 * d.start
  pub sent : bits_of (g.sent d.pushed.target) ≡ before ++ (head_spelling (open_info d.pushed.shape) (with_place d.pushed.shape.block_size d.table d.list) ++ joined frames)

-- It is so at first, if the bytes of the target are known.
abbrev pub BeginsDraft : {S : Type 0} → target.Ghosts S → (old : S) → Draft S → Type 0
BeginsDraft g old d = g.known old ≡ true → (samples : List (List ℤ)) → length samples ≡ d.pushed.shape.channels → Drafts g samples (bits_of (g.sent old)) d

-- It is still so after the next block.
abbrev pub GoesOn : {S : Type 0} → target.Ghosts S → List (List ℤ) → (old new : Draft S) → Type 0
GoesOn g block old new = g.known old.pushed.target ≡ true → (samples : List (List ℤ)) (before : List Bool) → Drafts g samples before old → IsNextBlock old samples block → Drafts g samples before new

-- It is still so if something else is tried before the first block.
abbrev pub StaysDraft : {S : Type 0} → target.Ghosts S → (old new : Draft S) → Type 0
StaysDraft g old new = old.pushed.number ≡ 0 → (samples : List (List ℤ)) (before : List Bool) → Drafts g samples before old → Drafts g samples before new

-- ---- the whole

-- What was written after `before` is a stream of what was given, as `Encodes` says it of one by a plan, and each frame is
-- a shortest one of its block also over the predictors that a search found.
pub record EncodesFound (sought : Option Search) (p : Cut) (list : List Block) (a : Sound) (before after : List Bool) : Type 0 where
  pub least : ℕ
  pub greatest : ℕ
  pub frames : List (List Bool)
  pub are : AreFrames p a frames
  pub are_least : AreLeastFound sought p.predictors p.block_size a frames
  pub sizes : AreSizes frames least greatest
  pub written : after ≡ before ++ stream_spelling p (list ++ table_of (points_of p frames)) a least greatest frames
  pub stream : Stream grammar (opening p.profile) (beginning Truncated) (given p (list ++ table_of (points_of p frames)) a least greatest)
      (stream_spelling p (list ++ table_of (points_of p frames)) a least greatest frames)

-- The target has the whole stream of the samples of which all blocks were pushed: STREAMINFO states their number, the
-- sizes of the frames and the digest, and the seek table has the points of the frames.
abbrev pub Finishes : {S : Type 0} → target.Ghosts S → Draft S → S → Type 0
Finishes g d new = g.known d.pushed.target ≡ true → (samples : List (List ℤ)) (before : List Bool) → Drafts g samples before d → HasAll d samples
    → EncodesFound d.pushed.search (plan_for d samples) d.list (sound_for d samples) before (bits_of (g.sent new))

-- The first reason why it is not finished: the target failed before; or for the seek table another number of samples was
-- stated than came.
abbrev pub finish_fault : {S : Type 0} → Draft S → Option DraftFault
finish_fault d = cond d.pushed.spent (Some (Encode Spent)) (cond (not (takes d.table d.pushed.samples)) (Some OtherTotal) None)

-- with Write the target, which is returned, returned an error
abbrev pub FailsLast : {S : Type 0} → target.Ghosts S → (old : S) → DraftFault → (left : S) → Type 0
FailsLast g old fault left = fault ≡ Encode Write → Fails g old left

-- Without a search this is what `encode` writes by the same plan.
abbrev pub DraftsAreEncoded : Type 0
DraftsAreEncoded = (p : Cut) (ps : List LinearPredictor) (list : List Block) (a : Sound) (before after : List Bool) → EncodesFound None (with_predictors p ps) list a before after → Encodes (with_predictors p ps) list a before after

-- In any case it is what `encode` writes by a plan that has lists for the planes of each frame, of which each begins with
-- the predictors that were set.
abbrev pub FoundAreEncoded : Type 0
FoundAreEncoded =
    (sought : Option Search) (p : Cut) (ps : List LinearPredictor) (list : List Block) (a : Sound) (before after : List Bool) → EncodesFound sought (with_predictors p ps) list a before after
    → (found : List (List (List LinearPredictor))) × AllBegin ps found × Encodes (with_found (with_predictors p ps) found) list a before after
