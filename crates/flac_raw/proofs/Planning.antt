-- What holds of a plan for raw samples, and of a draft that is begun by it.
use Rattle.std.proofs.Common.{◌≡◌, ◌<◌, ◌*◌, ◌/◌, ◌-◌, ◌^◌, ◌&&◌, ◌||◌, not, min, ℕ, zero, suc, Bool, true, false, cond, nat_eq, nat_lt, ℤ, List, [], length, Option, Some, None, refl, sym, ap, ◌∙◌, subst, arith, inl, inr}
use Rattle.std.specs.Prelude.{◌⊎◌, option_map}
use Rattle.std.specs.Option.{option_or}
use Rattle.std.proofs.lemmas.Bool.Decides.{nat_tests}
use Rattle.flac_bits.specs.Bits.{bits_of}
use Rattle.flac_bits.specs.declared.target.Target as target
use Rattle.flac_header.specs.Header.{allows_block}
use Rattle.flac_header.specs.declared.subset.Profile.{Profile}
use Rattle.flac_meta.specs.declared.block.Block.{Block}
use Rattle.flac_subframe.specs.declared.format.linear.LinearPredictor.{LinearPredictor}
use Rattle.flac_frame.specs.Audio.{samples_each}
use Rattle.flac_native.specs.Given.{cut_in, with_predictors, blocks_in, predictors_fault, cutting_fault, plan_fault}
use Rattle.flac_native.specs.Message.{sample_width}
use Rattle.flac_native.specs.Seeking.{has_table, repeats_table}
use Rattle.flac_native.specs.declared.fault.EncodeFault.TheVariants as encode
use Rattle.flac_native.proofs.Planned.{both_none, first_none, planned, still_planned}
use Rattle.flac_predict.specs.declared.search.Search.{Search}
use Rattle.flac_encoder.specs.Pushing.{Shape, shape_fault, sound_of}
use Rattle.flac_draft.specs.Draft.{Draft, finish_fault}
use Rattle.flac_draft.specs.Table as draft
use Rattle.flac_jobs.specs.declared.formats.RawFormat.{RawFormat}
use Rattle.flac_raw.specs.Raw.{raw_channels, raw_sound, IsRaw}
use Rattle.flac_raw.specs.Faults.{format_fault, AreSamples}
use Rattle.flac_raw.specs.Planned.{Planned, raw_shape, raw_cut}
use Rattle.flac_ogg.specs.Writing.{begins_with_comment}
use Rattle.flac_encoder.specs.PushingOgg.{open_fault}
use Rattle.flac_raw.specs.Encoded.{container_fault, EncodesByIn, HasSent, IsOutside, IsUnfitIn}
use Rattle.flac_raw.specs.declared.raw_draft.RawDraft.{RawDraft}
use Rattle.flac_jobs.specs.declared.formats.ContainerKind.{ContainerKind}
use Rattle.flac_jobs.specs.declared.formats.ContainerKind.TheVariants as container
use Rattle.flac_raw.specs.declared.raw_fault.RawEncodeFault.{RawEncodeFault}
use Rattle.flac_raw.specs.declared.raw_fault.RawEncodeFault.TheVariants.{Changed}
use Rattle.flac_raw.specs.inner.Surveyed.{IsSurvey}
use Rattle.flac_raw.specs.inner.Pushed.{draft_in, container_in, DraftsIn, BeginsDraftIn, EncodesFoundIn, FinishesIn, IsBegun, KeepsAsked, AreFit, AreAllFit, PushesAll}
use Rattle.flac_raw.proofs.Pieces.{channels_many}
use Rattle.flac_raw.proofs.Refusing.{samples_fit}
use Rattle.flac_raw.proofs.Taken.{channels_each}
use Rattle.flac_raw.proofs.Judged.{survey_good, survey_raw}

-- ---- the plan

-- the table, if there are to be points
table_some : (total every : ℕ) → 0 < every → draft.table_for total every ≡ record { total = total; every = every; points = []; bytes = 0 }
table_some total every some =
    let e : nat_eq every 0 ≡ false = grind (arith, nat_tests) in
    ap (λ c. cond c draft.no_table (record { total = total; every = every; points = []; bytes = 0 })) e

module _ (profile : Profile) (format : RawFormat) (total : ℕ) (ps : List LinearPredictor) (good : plan_fault (raw_cut profile format total ps) ≡ None) where
  pub plan_format : None ≡ format_fault profile format
  unfolding plan_fault
  plan_format = sym (both_none (format_fault profile format) _ good).0

  pub plan_shape : shape_fault (raw_shape profile format) ≡ None
  unfolding plan_fault cutting_fault shape_fault
  plan_shape =
      let both = both_none (format_fault profile format) _ good in
      let size = (first_none (not (allows_block profile format.block format.rate)) _ _ both.1).0 in
      rw (both.0, size) refl

  no_predictors : predictors_fault profile format.rate [] ≡ None
  unfolding predictors_fault
  no_predictors = refl

  pub plan_bare : plan_fault (raw_cut profile format total []) ≡ None
  plan_bare = still_planned (raw_cut profile format total ps) [] good no_predictors

  asked_some : (list : List Block) (every : ℕ) → 0 < every → format.seek_every ≡ every
      → draft.table_fault (raw_shape profile format) list (record { total = total; every = every; points = []; bytes = 0 }) ≡ cond (nat_lt 0 every && has_table list) (Some encode.RepeatedBlock) None
  unfolding draft.table_fault
  asked_some list every some is =
      let e : nat_eq every 0 ≡ false = grind (arith, nat_tests) in
      let k : nat_lt 0 every ≡ true = grind (arith, nat_tests) in
      let bare : plan_fault (draft.cut_stated (raw_shape profile format) total every) ≡ None = subst (λ n. plan_fault (draft.cut_stated (raw_shape profile format) total n) ≡ None) is plan_bare in
      rw (e, k, bare) refl

  asked_none : (list : List Block) → draft.table_fault (raw_shape profile format) list (draft.table_for total 0) ≡ None
  unfolding draft.table_fault
  asked_none list = refl

  asked_table : (list : List Block) (every : ℕ) → format.seek_every ≡ every → draft.table_fault (raw_shape profile format) list (draft.table_for total every) ≡ cond (nat_lt 0 every && has_table list) (Some encode.RepeatedBlock) None
  asked_table list zero is = asked_none list
  asked_table list (suc n) is = ap (draft.table_fault (raw_shape profile format) list) (table_some total (suc n) (omega arith)) ∙ asked_some list (suc n) (omega arith) is

  -- a draft is begun by the plan if the list has no second table
  pub begin_is : (list : List Block) → draft.begin_fault (raw_shape profile format) list (draft.table_for total format.seek_every) ≡ cond (repeats_table (raw_cut profile format total ps) list) (Some encode.RepeatedBlock) None
  begin_is list =
      ap (λ o. option_or (option_map encode.Setup o) (draft.table_fault (raw_shape profile format) list (draft.table_for total format.seek_every))) plan_shape
      ∙ asked_table list format.seek_every refl

  -- a draft in Ogg is begun by the plan if the list begins with a Vorbis comment, and no table is asked for
  pub ogg_is : (serial : ℕ) (search : Option Search) (list : List Block) → format.seek_every ≡ 0 → open_fault (raw_shape profile format) list ≡ container_fault (container.Ogg serial) (record { profile = profile; format = format; total = total; predictors = ps; search = search }) list
  ogg_is serial search list none =
      ap (λ o. option_or (option_map encode.Setup o) (cond (begins_with_comment list) None (Some encode.BadMapping))) plan_shape ∙ sym (ap (λ n. cond (nat_eq n 0 && begins_with_comment list) None (Some encode.BadMapping)) none)

  pub ogg_tabled : (serial : ℕ) (search : Option Search) (list : List Block) → 0 < format.seek_every → container_fault (container.Ogg serial) (record { profile = profile; format = format; total = total; predictors = ps; search = search }) list ≡ Some encode.BadMapping
  ogg_tabled serial search list some =
      let other : nat_eq format.seek_every 0 ≡ false = grind (arith, nat_tests) in
      ap (λ b. cond (b && begins_with_comment list) None (Some encode.BadMapping)) other

-- without points there is none
pub untabled : (total every : ℕ) → every ≡ 0 → draft.no_table ≡ draft.table_for total every
untabled total every none = sym (ap (draft.table_for total) none)

-- ---- the table

pub table_every : (total every : ℕ) → (draft.table_for total every).every ≡ every
table_every total zero = refl
table_every total (suc n) = ap (λ (t : draft.Table). t.every) (table_some total (suc n) (omega arith))

or_true : (a b : Bool) → b ≡ true → (a || b) ≡ true
or_true true b e = refl
or_true false b e = e

same_count : (a b : ℕ) → a ≡ b → nat_eq a b ≡ true
same_count a b e = grind (arith, nat_tests)

takes_all : (total every samples : ℕ) → samples ≡ total → draft.takes (draft.table_for total every) samples ≡ true
takes_all total zero samples is = refl
takes_all total (suc n) samples is = ap (λ (t : draft.Table). draft.takes t samples) (table_some total (suc n) (omega arith)) ∙ or_true (nat_eq (suc n) 0) (nat_eq samples total) (same_count samples total is)

takes_alike : (t : draft.Table) (total every samples : ℕ) → t.total ≡ (draft.table_for total every).total → t.every ≡ (draft.table_for total every).every → draft.takes t samples ≡ draft.takes (draft.table_for total every) samples
takes_alike t total every samples a b = ap (λ n. nat_eq n 0 || nat_eq samples t.total) b ∙ ap (λ n. nat_eq (draft.table_for total every).every 0 || nat_eq samples n) a

module _ {S : Type 0} (p : Planned) (list : List Block) (first now : Draft S) (begun : IsBegun p list first) (asked : KeepsAsked first now) where
  table_total : now.table.total ≡ (draft.table_for p.total p.format.seek_every).total
  table_total = asked.stated.total ∙ ap (λ (t : draft.Table). t.total) begun.table

  table_step : now.table.every ≡ (draft.table_for p.total p.format.seek_every).every
  table_step = asked.stated.every ∙ ap (λ (t : draft.Table). t.every) begun.table

  -- nothing keeps the draft from being finished
  pub none_left_out : now.pushed.samples ≡ p.total → finish_fault now ≡ None
  none_left_out samples =
      let spent : now.pushed.spent ≡ false = asked.spent ∙ begun.spent in
      let takes : draft.takes now.table now.pushed.samples ≡ true = takes_alike now.table p.total p.format.seek_every now.pushed.samples table_total table_step ∙ takes_all p.total p.format.seek_every now.pushed.samples samples in
      rw (spent, takes) refl

  -- ---- what was written

  module _ (kind : ContainerKind) (samples : List (List ℤ)) (before after : List Bool) where
    moved : (s : Shape) (ps : List LinearPredictor) (search : Option Search) (l : List Block) (every : ℕ)
        → EncodesFoundIn kind now.pushed.search (with_predictors (cut_in now.pushed.shape.profile now.pushed.shape.block_size (sound_of now.pushed.shape samples) now.table.every) now.pushed.predictors) now.list (sound_of now.pushed.shape samples) before after
        → now.pushed.shape ≡ s → now.pushed.predictors ≡ ps → now.pushed.search ≡ search → now.list ≡ l → now.table.every ≡ every
        → EncodesFoundIn kind search (with_predictors (cut_in s.profile s.block_size (sound_of s samples) every) ps) l (sound_of s samples) before after
    moved s ps search l every e a b c d f =
        subst (λ k. EncodesFoundIn kind search (with_predictors (cut_in s.profile s.block_size (sound_of s samples) k) ps) l (sound_of s samples) before after) f
        (subst (λ k. EncodesFoundIn kind search (with_predictors (cut_in s.profile s.block_size (sound_of s samples) now.table.every) ps) k (sound_of s samples) before after) d
        (subst (λ k. EncodesFoundIn kind k (with_predictors (cut_in s.profile s.block_size (sound_of s samples) now.table.every) ps) now.list (sound_of s samples) before after) c
        (subst (λ k. EncodesFoundIn kind now.pushed.search (with_predictors (cut_in s.profile s.block_size (sound_of s samples) now.table.every) k) now.list (sound_of s samples) before after) b
        (subst (λ (k : Shape). EncodesFoundIn kind now.pushed.search (with_predictors (cut_in k.profile k.block_size (sound_of k samples) now.table.every) now.pushed.predictors) now.list (sound_of k samples) before after) a e))))

    pub whole_stream : EncodesFoundIn kind now.pushed.search (with_predictors (cut_in now.pushed.shape.profile now.pushed.shape.block_size (sound_of now.pushed.shape samples) now.table.every) now.pushed.predictors) now.list (sound_of now.pushed.shape samples) before after
        → EncodesFoundIn kind p.search (with_predictors (cut_in p.profile p.format.block (sound_of (raw_shape p.profile p.format) samples) p.format.seek_every) p.predictors) list (sound_of (raw_shape p.profile p.format) samples) before after
    whole_stream e =
        moved (raw_shape p.profile p.format) p.predictors p.search list p.format.seek_every e (asked.shape ∙ begun.shape) (asked.predictors ∙ begun.predictors) (asked.search ∙ begun.search) (asked.blocks ∙ begun.blocks)
        (table_step ∙ table_every p.total p.format.seek_every)

-- ---- the samples

counted : (n total : ℕ) → total ≡ n → total < 2 ^ 36 → total ≡ min n (2 ^ 64 - 1)
counted n total is few = omega (arith, is, few)

module _ (p : Planned) (bytes : List ℕ) (good : plan_fault (raw_cut p.profile p.format p.total p.predictors) ≡ None) where
  survey_of : AreAllFit p.format.bits p.format.channels (sample_width p.format.bits) p.total bytes → IsSurvey p.format.bits p.format.channels (sample_width p.format.bits) bytes p.total true
  survey_of all = record {
    whole = all.fit.whole;
    are = all.are;
    many = counted (length bytes / (p.format.channels * sample_width p.format.bits)) p.total all.fit.many (planned (raw_cut p.profile p.format p.total p.predictors) good).total;
    fit = sym all.fit.fit;
  }

  pub samples_are : AreAllFit p.format.bits p.format.channels (sample_width p.format.bits) p.total bytes → AreSamples p.profile p.format bytes p.total
  samples_are all = survey_good p.profile p.format bytes (plan_format p.profile p.format p.total p.predictors good) p.total (survey_of all) (planned (raw_cut p.profile p.format p.total p.predictors) good).total

  pub raw_are : AreAllFit p.format.bits p.format.channels (sample_width p.format.bits) p.total bytes → IsRaw p.profile p.format bytes (raw_sound p.profile p.format bytes)
  raw_are all = survey_raw p.profile p.format bytes (plan_format p.profile p.format p.total p.predictors good) p.total (survey_of all) (planned (raw_cut p.profile p.format p.total p.predictors) good).total

-- ---- the whole

moved_fit : (bits depth count many width wide total all : ℕ) (bytes : List ℕ) → bits ≡ depth → count ≡ many → width ≡ wide → total ≡ all → AreFit bits count width total bytes → AreFit depth many wide all bytes
moved_fit bits depth count many width wide total all bytes a b c d f =
    subst (λ k. AreFit depth many wide k bytes) d (subst (λ k. AreFit depth many k total bytes) c (subst (λ k. AreFit depth k width total bytes) b (subst (λ k. AreFit k count width total bytes) a f)))

moved_all : (bits depth count many width wide total all : ℕ) (bytes : List ℕ) → bits ≡ depth → count ≡ many → width ≡ wide → total ≡ all → AreAllFit bits count width total bytes → AreAllFit depth many wide all bytes
moved_all bits depth count many width wide total all bytes a b c d f =
    subst (λ k. AreAllFit depth many wide k bytes) d (subst (λ k. AreAllFit depth many k total bytes) c (subst (λ k. AreAllFit depth k width total bytes) b (subst (λ k. AreAllFit k count width total bytes) a f)))

-- what is read is of the plan
pub record IsOf (p : Planned) (bits count width size total : ℕ) : Type 0 where
  pub depth : bits ≡ p.format.bits
  pub many : count ≡ p.format.channels
  pub wide : width ≡ sample_width p.format.bits
  pub block : size ≡ p.format.block
  pub all : total ≡ p.total

module _ (p : Planned) (list : List Block) (bytes : List ℕ) (good : plan_fault (raw_cut p.profile p.format p.total p.predictors) ≡ None) (bits count width size total : ℕ) (is_of : IsOf p bits count width size total) where
  -- why the second pass stopped
  pub pass_refused : (c : ContainerKind) (e : RawEncodeFault) → IsOutside e ⊎ ((e ≡ Changed) × (AreFit bits count width total bytes → ⊥)) → IsOutside e ⊎ IsUnfitIn c p list bytes e
  pass_refused c e (inl outside) = inl outside
  pass_refused c e (inr (changed, unlike)) =
      inr (inr (changed, λ are. unlike (moved_fit p.format.bits bits p.format.channels count (sample_width p.format.bits) width p.total total bytes (sym is_of.depth) (sym is_of.many) (sym is_of.wide) (sym is_of.all) (samples_fit p.profile p.format bytes p.total are))))

  all_of : AreAllFit bits count width total bytes → AreAllFit p.format.bits p.format.channels (sample_width p.format.bits) p.total bytes
  all_of all = moved_all bits p.format.bits count p.format.channels width (sample_width p.format.bits) total p.total bytes is_of.depth is_of.many is_of.wide is_of.all all

  pub pass_samples : AreAllFit bits count width total bytes → AreSamples p.profile p.format bytes p.total
  pass_samples all = samples_are p bytes good (all_of all)

  by_container : (c : ContainerKind) (before after : List Bool) → AreAllFit bits count width total bytes
      → EncodesFoundIn c p.search (with_predictors (cut_in p.profile p.format.block (raw_sound p.profile p.format bytes) p.format.seek_every) p.predictors) list (raw_sound p.profile p.format bytes) before after → EncodesByIn c p list bytes before after
  by_container container.Native before after all e = record { raw = raw_are p bytes good (all_of all); encodes = e }
  by_container (container.Ogg serial) before after all e = record { raw = raw_are p bytes good (all_of all); encodes = e }

  -- what it wrote
  module _ {S : Type 0} (g : target.Ghosts S) (c : ContainerKind) (first now : RawDraft S) (old new : S) (begun : IsBegun p list (draft_in first)) (asked : KeepsAsked (draft_in first) (draft_in now)) where
    pub pass_wrote : AreAllFit bits count width total bytes → container_in now ≡ c → BeginsDraftIn g old first → PushesAll g (raw_channels count width bytes) first now → (draft_in now).pushed.number ≡ blocks_in size total
        → (g.known old ≡ true → g.known (draft_in first).pushed.target ≡ true) → (g.known (draft_in first).pushed.target ≡ true → g.known (draft_in now).pushed.target ≡ true) → FinishesIn g now new → HasSent g old new (EncodesByIn c p list bytes)
    pass_wrote all kept begins pushes has told later finishes = λ known.
        let samples = raw_channels p.format.channels (sample_width p.format.bits) bytes in
        let before = bits_of (g.sent old) in
        let after = bits_of (g.sent new) in
        let row = p.format.channels * sample_width p.format.bits in
        let q = planned (raw_cut p.profile p.format p.total p.predictors) good in
        let same : raw_channels count width bytes ≡ samples = ap (λ k. raw_channels k width bytes) is_of.many ∙ ap (λ k. raw_channels p.format.channels k bytes) is_of.wide in
        let many : length samples ≡ (draft_in first).pushed.shape.channels = channels_many bytes (length bytes / row) row (sample_width p.format.bits) p.format.channels ∙ sym (ap (λ (s : Shape). s.channels) begun.shape) in
        let pushed = subst (λ l. PushesAll g l first now) same pushes in
        let drafts : DraftsIn g samples before now = pushed (told known) before (begins known samples many) in
        let each : samples_each samples ≡ p.total = channels_each p.format.channels (sample_width p.format.bits) bytes q.some ∙ sym (all_of all).fit.many in
        let block : (draft_in now).pushed.shape.block_size ≡ p.format.block = ap (λ (s : Shape). s.block_size) (asked.shape ∙ begun.shape) in
        let every : (draft_in now).pushed.number ≡ blocks_in (draft_in now).pushed.shape.block_size (samples_each samples) =
        has ∙ ap (λ k. blocks_in k total) (is_of.block ∙ sym block) ∙ ap (λ k. blocks_in (draft_in now).pushed.shape.block_size k) (is_of.all ∙ sym each) in
        let whole = whole_stream p list (draft_in first) (draft_in now) begun asked (container_in now) samples before after (finishes (later (told known)) samples before drafts every) in
        subst (λ k. EncodesByIn k p list bytes before after) kept (by_container (container_in now) before after all whole)
