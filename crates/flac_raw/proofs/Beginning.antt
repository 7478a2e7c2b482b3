-- A draft of a plan that is begun, and the errors that stop the second pass.
use Rattle.std.proofs.Common.{◌≡◌, ◌≢◌, ◌%◌, ℕ, Bool, true, false, cond, List, length, Option, Some, None, refl, ap, ◌∙◌, inl, inr}
use Rattle.std.specs.Prelude.{◌⊎◌}
use Rattle.flac_bits.specs.declared.target.Target as target
use Rattle.flac_bits.specs.declared.why.Why.TheVariants as why
use Rattle.flac_meta.specs.declared.block.Block.{Block}
use Rattle.flac_native.specs.declared.fault.EncodeFault.{EncodeFault}
use Rattle.flac_native.specs.declared.fault.EncodeFault.TheVariants as encode
use Rattle.flac_ogg.specs.Writing.{HasWriteError, CountsWriteError}
use Rattle.flac_encoder.specs.Pushing.{Shape, Pushed, IsUnpushed, trying, searching, IsFirst, Fails, FailsIn}
use Rattle.flac_draft.specs.Draft.{Draft, BeginsDraft, StaysDraft, finish_fault}
use Rattle.flac_draft.specs.OggDraft.{OggDraft, trying_draft, searching_draft, BeginsOggDraft, StaysOggDraft}
use Rattle.flac_draft.specs.Table as draft
use Rattle.flac_draft.specs.Faults.{IsFirstFault}
use Rattle.flac_draft.specs.declared.draft_fault.DraftFault.{DraftFault}
use Rattle.flac_draft.specs.declared.draft_fault.DraftFault.TheVariants as drafts
use Rattle.flac_raw.specs.Planned.{Planned, raw_shape}
use Rattle.flac_raw.specs.Encoded.{IsOutside, FailsLeft}
use Rattle.flac_raw.specs.inner.Pushed.{read_as, pushed_as, finished_as, IsBegun, IsFresh}
use Rattle.flac_raw.specs.declared.raw_fault.RawFault.{RawFault}
use Rattle.flac_raw.specs.declared.raw_fault.RawFault.TheVariants.{Input, Setup, RawLength}
use Rattle.flac_raw.specs.declared.raw_fault.RawEncodeFault.TheVariants.{Encode, Changed}

-- ---- a draft that is begun

module _ {S : Type 0} (p : Planned) (list : List Block) (e0 e1 e2 : Draft S) (made : IsUnpushed (raw_shape p.profile p.format) e0.pushed) (set : e1 ≡ record e0 { pushed = trying e0.pushed p.predictors })
    (sought : e2 ≡ record e1 { pushed = searching e1.pushed p.search }) where
  pub begun_is : e0.list ≡ list → e0.table ≡ draft.table_for p.total p.format.seek_every → IsBegun p list e2
  begun_is blocks table = record {
    shape = ap (λ (d : Draft S). d.pushed.shape) sought ∙ ap (λ (d : Draft S). d.pushed.shape) set ∙ ap (λ (q : Pushed S). q.shape) made;
    predictors = ap (λ (d : Draft S). d.pushed.predictors) sought ∙ ap (λ (d : Draft S). d.pushed.predictors) set;
    search = ap (λ (d : Draft S). d.pushed.search) sought;
    number = ap (λ (d : Draft S). d.pushed.number) sought ∙ ap (λ (d : Draft S). d.pushed.number) set ∙ ap (λ (q : Pushed S). q.number) made;
    samples = ap (λ (d : Draft S). d.pushed.samples) sought ∙ ap (λ (d : Draft S). d.pushed.samples) set ∙ ap (λ (q : Pushed S). q.samples) made;
    ended = ap (λ (d : Draft S). d.pushed.ended) sought ∙ ap (λ (d : Draft S). d.pushed.ended) set ∙ ap (λ (q : Pushed S). q.ended) made;
    spent = ap (λ (d : Draft S). d.pushed.spent) sought ∙ ap (λ (d : Draft S). d.pushed.spent) set ∙ ap (λ (q : Pushed S). q.spent) made;
    blocks = ap (λ (d : Draft S). d.list) sought ∙ ap (λ (d : Draft S). d.list) set ∙ blocks;
    table = ap (λ (d : Draft S). d.table) sought ∙ ap (λ (d : Draft S). d.table) set ∙ table;
  }

  pub begun_target : e2.pushed.target ≡ e0.pushed.target
  begun_target = ap (λ (d : Draft S). d.pushed.target) sought ∙ ap (λ (d : Draft S). d.pushed.target) set

  pub begun_draft : (g : target.Ghosts S) (old : S) → BeginsDraft g old e0 → StaysDraft g e0 e1 → StaysDraft g e1 e2 → BeginsDraft g old e2
  begun_draft g old begins first second = λ known samples many.
      let none0 : e0.pushed.number ≡ 0 = ap (λ (q : Pushed S). q.number) made in
      let none1 : e1.pushed.number ≡ 0 = ap (λ (d : Draft S). d.pushed.number) set ∙ none0 in
      let shape : e2.pushed.shape ≡ e0.pushed.shape = ap (λ (d : Draft S). d.pushed.shape) sought ∙ ap (λ (d : Draft S). d.pushed.shape) set in
      second none1 samples _ (first none0 samples _ (begins known samples (many ∙ ap (λ (s : Shape). s.channels) shape)))

-- the same in Ogg
module _ {S : Type 0} (p : Planned) (list : List Block) (e0 e1 e2 : OggDraft S) (made : IsUnpushed (raw_shape p.profile p.format) e0.draft.pushed) (set : e1 ≡ trying_draft e0 p.predictors) (sought : e2 ≡ searching_draft e1 p.search) where
  pub ogg_begun_is : e0.draft.list ≡ list → e0.draft.table ≡ draft.table_for p.total p.format.seek_every → IsBegun p list e2.draft
  ogg_begun_is blocks table = begun_is p list e0.draft e1.draft e2.draft made (ap (λ (d : OggDraft S). d.draft) set) (ap (λ (d : OggDraft S). d.draft) sought) blocks table

  pub ogg_serial : e2.serial ≡ e0.serial
  ogg_serial = ap (λ (d : OggDraft S). d.serial) sought ∙ ap (λ (d : OggDraft S). d.serial) set

  pub ogg_target : e2.draft.pushed.target ≡ e0.draft.pushed.target
  ogg_target = begun_target p list e0.draft e1.draft e2.draft made (ap (λ (d : OggDraft S). d.draft) set) (ap (λ (d : OggDraft S). d.draft) sought)

  pub ogg_begun_draft : (g : target.Ghosts S) (old : S) → BeginsOggDraft g old e0 → StaysOggDraft g e0 e1 → StaysOggDraft g e1 e2 → BeginsOggDraft g old e2
  ogg_begun_draft g old begins first second = λ known samples many.
      let none0 : e0.draft.pushed.number ≡ 0 = ap (λ (q : Pushed S). q.number) made in
      let none1 : e1.draft.pushed.number ≡ 0 = ap (λ (d : OggDraft S). d.draft.pushed.number) set ∙ none0 in
      let shape : e2.draft.pushed.shape ≡ e0.draft.pushed.shape = ap (λ (d : OggDraft S). d.draft.pushed.shape) sought ∙ ap (λ (d : OggDraft S). d.draft.pushed.shape) set in
      second none1 samples _ (first none0 samples _ (begins known samples (many ∙ ap (λ (s : Shape). s.channels) shape)))

pub begun_fresh : {S : Type 0} (p : Planned) (list : List Block) (d : Draft S) → IsBegun p list d → IsFresh d
begun_fresh p list d b = record { number = b.number; samples = b.samples; ended = b.ended; spent = b.spent }

-- ---- errors

same_encode : (f e : EncodeFault) → Encode f ≡ Encode e → f ≡ e
same_encode f e h = cc

-- of a target that the head was sent to
pub head_fails : {S : Type 0} (g : target.Ghosts S) (text : List Bool) (old : S) (e : EncodeFault) → (e ≡ encode.Write → (left : S) × FailsIn g text old left) → FailsLeft g old (Encode e)
head_fails g text old e h = λ is. let f = h (same_encode e encode.Write is) in (f.0, f.1.fails)

-- of one that a frame was sent to
pub push_fails : {S : Type 0} (g : target.Ghosts S) (old left : S) (e : EncodeFault) → HasWriteError g old left e → CountsWriteError g old left e → g.names left ≡ g.names old → e ≡ encode.Write → Fails g old left
push_fails g old left e known counts names is = record { failed = known is; risen = counts is; names = names }

pub pushed_write : (f : EncodeFault) → pushed_as f ≡ Encode encode.Write → f ≡ encode.Write
pushed_write encode.Write e = refl
pushed_write encode.Memory e = absurd cc
pushed_write (encode.Setup f) e = absurd cc
pushed_write encode.RepeatedBlock e = absurd cc
pushed_write encode.BadMapping e = absurd cc
pushed_write encode.BlockSize e = absurd cc
pushed_write encode.Spent e = absurd cc

pub other_changed : (f : EncodeFault) → (f ≡ encode.Memory → ⊥) → (f ≡ encode.Write → ⊥) → Changed ≡ pushed_as f
other_changed encode.Write a b = absurd (b refl)
other_changed encode.Memory a b = absurd (a refl)
other_changed (encode.Setup f) a b = refl
other_changed encode.RepeatedBlock a b = refl
other_changed encode.BadMapping a b = refl
other_changed encode.BlockSize a b = refl
other_changed encode.Spent a b = refl

pub push_refused : (o : Option EncodeFault) (f : EncodeFault) → IsFirst o f → IsOutside (pushed_as f) ⊎ ((k : EncodeFault) × (o ≡ Some k) × (pushed_as f ≡ pushed_as k))
push_refused o f (inl is) = inr (f, is, refl)
push_refused o f (inr (none, inl memory)) = inl (inr (inl (ap pushed_as memory)))
push_refused o f (inr (none, inr write)) = inl (inr (inr (ap pushed_as write)))

pub read_refused : (f : RawFault) (row : ℕ) (left : List ℕ) → (f ≡ Input why.Memory) ⊎ ((f ≡ RawLength) × (length left % row ≢ 0)) → IsOutside (read_as f) ⊎ ((read_as f ≡ Changed) × (length left % row ≢ 0))
read_refused f row left (inl memory) = inl (inl (ap read_as memory))
read_refused f row left (inr part) = inr (ap read_as part.0, part.1)

pub read_unwritten : (f : RawFault) (e : EncodeFault) → read_as f ≡ Encode e → ⊥
read_unwritten (Input w) e h = absurd cc
read_unwritten (Setup f) e h = absurd cc
read_unwritten RawLength e h = absurd cc

pub finish_refused : (f : DraftFault) → IsFirstFault None f → IsOutside (finished_as f)
finish_refused f (inl some) = absurd cc
finish_refused f (inr (none, inl memory)) = inr (inl (ap finished_as memory))
finish_refused f (inr (none, inr write)) = inr (inr (ap finished_as write))

-- a native draft that can be finished so can one in Ogg
pub ogg_unspent : {S : Type 0} (d : Draft S) → finish_fault d ≡ None → cond d.pushed.spent (Some (drafts.Encode encode.Spent)) None ≡ None
ogg_unspent d e = go _ d.pushed.spent e
  where
    go : (o : Option DraftFault) (spent : Bool) → cond spent (Some (drafts.Encode encode.Spent)) o ≡ None → cond spent (Some (drafts.Encode encode.Spent)) None ≡ None
    go o true h = absurd cc
    go o false h = refl

pub finished_write : (f : DraftFault) → finished_as f ≡ Encode encode.Write → f ≡ drafts.Encode encode.Write
finished_write (drafts.Encode f) e = ap drafts.Encode (same_encode f encode.Write e)
finished_write drafts.OtherTotal e = absurd cc
