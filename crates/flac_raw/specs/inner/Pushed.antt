-- For proofs of encoding raw samples block by block.
use Rattle.std.specs.Prelude.{◌≡◌, ◌⊎◌, ◌≤◌, ◌*◌, ◌/◌, ◌%◌, ℕ, ℤ, Bool, true, false, List, Option, Some, length}
use Rattle.flac_bits.specs.declared.target.Target as target
use Rattle.flac_meta.specs.declared.block.Block.{Block}
use Rattle.flac_frame.specs.Audio.{each_small}
use Rattle.flac_native.specs.declared.fault.EncodeFault.{EncodeFault}
use Rattle.flac_native.specs.declared.fault.EncodeFault.TheVariants as encode
use Rattle.flac_encoder.specs.Pushing.{Shape, Pushed, push_fault, Fails}
use Rattle.flac_draft.specs.Draft.{Draft, Drafts, IsNextBlock, HasAll, EncodesFound, plan_for, sound_for}
use Rattle.flac_draft.specs.OggDraft.{OggDrafts, EncodesOggFound}
use Rattle.flac_draft.specs.Table.{StaysStated, table_for}
use Rattle.flac_native.specs.Given.{Cut}
use Rattle.flac_frame.specs.Audio.{Sound}
use Rattle.flac_bits.specs.Bits.{bits_of}
use Rattle.flac_predict.specs.declared.search.Search.{Search}
use Rattle.flac_jobs.specs.declared.formats.ContainerKind.{ContainerKind}
use Rattle.flac_jobs.specs.declared.formats.ContainerKind.TheVariants as container
use Rattle.flac_draft.specs.declared.draft_fault.DraftFault.{DraftFault}
use Rattle.flac_draft.specs.declared.draft_fault.DraftFault.TheVariants as draft
use Rattle.flac_raw.specs.Raw.{raw_channels}
use Rattle.flac_raw.specs.Reading.{AreChannels, EndsInside}
use Rattle.flac_raw.specs.Planned.{Planned, raw_shape}
use Rattle.flac_raw.specs.Encoded.{IsOutside}
use Rattle.flac_raw.specs.declared.blocks.RawBlocks.{RawBlocks}
use Rattle.flac_raw.specs.declared.raw_draft.RawDraft.{RawDraft}
use Rattle.flac_raw.specs.declared.raw_draft.RawDraft.TheVariants as raw
use Rattle.flac_raw.specs.declared.raw_fault.RawFault.{RawFault}
use Rattle.flac_raw.specs.declared.raw_fault.RawFault.TheVariants.{Input, Setup, RawLength}
use Rattle.flac_raw.specs.declared.raw_fault.RawEncodeFault.{RawEncodeFault}
use Rattle.flac_raw.specs.declared.raw_fault.RawEncodeFault.TheVariants.{Raw, Encode, Changed}

-- ---- why the second pass stops

-- the second pass reads other bytes than the first if they are not whole inter-channel samples
abbrev pub read_as : RawFault → RawEncodeFault
read_as RawLength = Changed
read_as (Input why) = Raw (Input why)
read_as (Setup fault) = Raw (Setup fault)

-- or if a block is refused
abbrev pub pushed_as : EncodeFault → RawEncodeFault
pushed_as encode.Memory = Encode encode.Memory
pushed_as encode.Write = Encode encode.Write
pushed_as other = Changed

-- or if there are not as many samples as the seek table was made for
abbrev pub finished_as : DraftFault → RawEncodeFault
finished_as (draft.Encode fault) = Encode fault
finished_as draft.OtherTotal = Changed

-- The next block was not read: memory ran out, or the bytes end inside an inter-channel sample of `row` bytes.
abbrev pub StopsReading : (row : ℕ) → RawEncodeFault → (bytes : List ℕ) → Type 0
StopsReading row e bytes = IsOutside e ⊎ ((e ≡ Changed) × EndsInside row bytes)

-- A block was not pushed: memory ran out, or the target failed; or the encoder refuses such a block.
abbrev pub StopsPushing : {S : Type 0} → Pushed S → (block : List (List ℤ)) → RawEncodeFault → Type 0
StopsPushing pushed block e = IsOutside e ⊎ ((f : EncodeFault) × (push_fault pushed block ≡ Some f) × (e ≡ pushed_as f))

-- with Write the target of the encoder returned an error, which is counted
abbrev pub FailsInto : {S : Type 0} → target.Ghosts S → (old new : Pushed S) → RawEncodeFault → Type 0
FailsInto g old new e = e ≡ Encode encode.Write → Fails g old.target new.target

-- ---- the encoder, of either container

-- what a native draft and one in Ogg have alike
abbrev pub draft_in : {S : Type 0} → RawDraft S → Draft S
draft_in (raw.Native d) = d
draft_in (raw.Ogg d) = d.draft

-- and its container
abbrev pub container_in : {S : Type 0} → RawDraft S → ContainerKind
container_in (raw.Native d) = container.Native
container_in (raw.Ogg d) = container.Ogg d.serial

-- the blocks that were pushed are the first ones of these samples
abbrev pub DraftsIn : {S : Type 0} → target.Ghosts S → (samples : List (List ℤ)) → (before : List Bool) → RawDraft S → Type 0
DraftsIn g samples before (raw.Native d) = Drafts g samples before d
DraftsIn g samples before (raw.Ogg d) = OggDrafts g samples before d

-- it is so at first
abbrev pub BeginsDraftIn : {S : Type 0} → target.Ghosts S → (old : S) → RawDraft S → Type 0
BeginsDraftIn g old d = g.known old ≡ true → (samples : List (List ℤ)) → length samples ≡ (draft_in d).pushed.shape.channels → DraftsIn g samples (bits_of (g.sent old)) d

-- it is still so after the next block
abbrev pub GoesOnIn : {S : Type 0} → target.Ghosts S → List (List ℤ) → (old new : RawDraft S) → Type 0
GoesOnIn g block old new =
    g.known (draft_in old).pushed.target ≡ true → (samples : List (List ℤ)) (before : List Bool) → DraftsIn g samples before old → IsNextBlock (draft_in old) samples block → DraftsIn g samples before new

-- what is written of what was given
abbrev pub EncodesFoundIn : ContainerKind → Option Search → Cut → List Block → Sound → (before after : List Bool) → Type 0
EncodesFoundIn container.Native search p list a before after = EncodesFound search p list a before after
EncodesFoundIn (container.Ogg serial) search p list a before after = EncodesOggFound search serial p list a before after

-- the target has the whole stream
abbrev pub FinishesIn : {S : Type 0} → target.Ghosts S → RawDraft S → S → Type 0
FinishesIn g d new =
    g.known (draft_in d).pushed.target ≡ true → (samples : List (List ℤ)) (before : List Bool) → DraftsIn g samples before d → HasAll (draft_in d) samples
    → EncodesFoundIn (container_in d) (draft_in d).pushed.search (plan_for (draft_in d) samples) (draft_in d).list (sound_for (draft_in d) samples) before (bits_of (g.sent new))

-- ---- what is asked of it

-- a draft of a plan, to which nothing was pushed
pub record IsBegun {S : Type 0} (p : Planned) (list : List Block) (d : Draft S) : Type 0 where
  pub shape : d.pushed.shape ≡ raw_shape p.profile p.format
  pub predictors : d.pushed.predictors ≡ p.predictors
  pub search : d.pushed.search ≡ p.search
  pub number : d.pushed.number ≡ 0
  pub samples : d.pushed.samples ≡ 0
  pub ended : d.pushed.ended ≡ false
  pub spent : d.pushed.spent ≡ false
  pub blocks : d.list ≡ list
  pub table : d.table ≡ table_for p.total p.format.seek_every

-- what was asked of it stays, and its target has not failed
pub record KeepsAsked {S : Type 0} (old new : Draft S) : Type 0 where
  pub shape : new.pushed.shape ≡ old.pushed.shape
  pub predictors : new.pushed.predictors ≡ old.pushed.predictors
  pub search : new.pushed.search ≡ old.pushed.search
  pub spent : new.pushed.spent ≡ old.pushed.spent
  pub blocks : new.list ≡ old.list
  pub stated : StaysStated old.table new.table

-- nothing was pushed to it
pub record IsFresh {S : Type 0} (d : Draft S) : Type 0 where
  pub number : d.pushed.number ≡ 0
  pub samples : d.pushed.samples ≡ 0
  pub ended : d.pushed.ended ≡ false
  pub spent : d.pushed.spent ≡ false

-- blocks that are read so are those of the encoder
pub record IsFor (s : Shape) (channels width size : ℕ) : Type 0 where
  pub many : s.channels ≡ channels
  pub some : 1 ≤ channels
  pub wide : 1 ≤ width
  pub block : s.block_size ≡ size
  pub least : 16 ≤ size

-- these bytes are `total` inter-channel samples, which fit their bits
pub record AreFit (bits count width total : ℕ) (bytes : List ℕ) : Type 0 where
  pub whole : length bytes % (count * width) ≡ 0
  pub many : total ≡ length bytes / (count * width)
  pub fit : each_small bits (raw_channels count width bytes) ≡ true

-- and their channels are spelled by them
pub record AreAllFit (bits count width total : ℕ) (bytes : List ℕ) : Type 0 where
  pub fit : AreFit bits count width total bytes
  pub are : AreChannels bytes count width (raw_channels count width bytes)

-- if the target is known, all blocks of these samples were pushed after those of a draft
abbrev pub PushesAll : {S : Type 0} → target.Ghosts S → (samples : List (List ℤ)) → (old new : RawDraft S) → Type 0
PushesAll g samples old new = g.known (draft_in old).pushed.target ≡ true → (before : List Bool) → DraftsIn g samples before old → DraftsIn g samples before new

-- ---- the same of what is read by such blocks

-- these bytes are `total` inter-channel samples, which fit the bits of the draft's format and are spelled by them
abbrev pub AreAllFitAs : {S : Type 0} → Draft S → RawBlocks → (total : ℕ) (bytes : List ℕ) → Type 0
AreAllFitAs d b total bytes = AreAllFit d.pushed.shape.bits (length b.lists.items) b.width total bytes

-- all blocks of them were pushed
abbrev pub PushesRaw : {S : Type 0} → target.Ghosts S → RawBlocks → (old new : RawDraft S) (bytes : List ℕ) → Type 0
PushesRaw g b old new bytes = PushesAll g (raw_channels (length b.lists.items) b.width bytes) old new

-- they were not: memory ran out, or the target failed; or they are not `total` such samples
abbrev pub StopsRaw : {S : Type 0} → Draft S → RawBlocks → (total : ℕ) → RawEncodeFault → (bytes : List ℕ) → Type 0
StopsRaw d b total e bytes = IsOutside e ⊎ ((e ≡ Changed) × (AreFit d.pushed.shape.bits (length b.lists.items) b.width total bytes → ⊥))
