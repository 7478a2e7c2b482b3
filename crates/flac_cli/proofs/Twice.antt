-- Raw samples that are read twice: what a pass over them finds, why they are refused, and what is written.
use Rattle.std.proofs.Common.{◌≡◌, ◌⊎◌, ◌&&◌, ℕ, Bool, true, false, cond, nat_lt, List, [], All, Option, Some, None, Vec, Global, refl, ap, sym, subst, ◌∙◌, inl, inr}
use Rattle.std.specs.Prelude.{option_map}
use denote.Bor.{Bor}
use Rattle.std.proofs.lemmas.List.Elements.{All-nil}
use Rattle.flac_bits.specs.declared.target.Target as target
use Rattle.flac_bits.specs.declared.why.Why.TheVariants as why
use Rattle.flac_header.specs.declared.subset.Profile.{Profile}
use Rattle.flac_meta.specs.Listed.{list_fault, info_seen}
use Rattle.flac_meta.specs.declared.block.Block.{Block}
use Rattle.flac_subframe.specs.declared.format.linear.LinearPredictor.{LinearPredictor}
use Rattle.flac_frame.specs.Audio.{Sound}
use Rattle.flac_frame.specs.declared.setup.SetupFault.{SetupFault}
use Rattle.flac_native.specs.Given.{Cut, cut_of, with_predictors, with_found, plan_fault}
use Rattle.flac_native.specs.Seeking.{repeats_table}
use Rattle.flac_native.specs.Writing.{Encodes}
use Rattle.flac_native.specs.declared.fault.EncodeFault.{EncodeFault}
use Rattle.flac_native.specs.declared.fault.EncodeFault.TheVariants as encode
use Rattle.flac_native.proofs.Planned.{still_found}
use Rattle.flac_predict.specs.Found.{IsPrefixOf}
use Rattle.flac_predict.specs.declared.search.Search.{Search}
use Rattle.flac_predict.specs.declared.search.Search.TheVariants.{Quick, Full}
use Rattle.flac_encoder.specs.Pushing.{Fails}
use Rattle.flac_draft.specs.Draft.{EncodesFound}
use Rattle.flac_draft.specs.OggDraft.{EncodesOggFound}
use Rattle.flac_ogg.specs.Writing.{EncodesOgg}
use Rattle.flac_draft.proofs.Drafting.{drafts_are_encoded}
use Rattle.flac_draft.proofs.FoundLists.{found_are_encoded}
use Rattle.flac_raw.specs.Faults as samples
use Rattle.flac_raw.specs.Faults.{AreSamples}
use Rattle.flac_raw.specs.Planned.{Planned, planned, raw_cut}
use Rattle.flac_raw.specs.Encoded.{EncodesByIn, container_fault, IsOutside as TheirIsOutside, IsUnfitIn, FailsLeft}
use Rattle.flac_raw.specs.declared.raw_fault.RawFault.{RawFault}
use Rattle.flac_raw.specs.declared.raw_fault.RawFault.TheVariants as raw
use Rattle.flac_raw.specs.declared.raw_fault.RawEncodeFault.{RawEncodeFault}
use Rattle.flac_raw.specs.declared.raw_fault.RawEncodeFault.TheVariants as fault
use Rattle.flac_raw.proofs.Refusing.{cut_is}
use Rattle.flac_cli.specs.Asked.{Asked}
use Rattle.flac_cli.specs.Encoded.{comment_list, cut_as, cut_found, AreFound, EncodesIn, EncodesRaw}
use Rattle.flac_cli.specs.Predictors.{AreListed}
use Rattle.flac_raw.specs.Raw.{raw_sound, IsRaw}
use Rattle.flac_cli.specs.Refusals.{refusal_as, raw_fault, input_fault, stream_fault, refusal, IsOutside}
use Rattle.flac_cli.specs.Twice.{is_twice, IsTwiceReason}
use Rattle.flac_cli.specs.declared.encode.Refusal.{Refusal}
use Rattle.flac_cli.specs.declared.encode.Refusal.TheVariants.{Setup, Output}
use Rattle.flac_cli.specs.inner.Searching.{search_of}
use Rattle.flac_cli.specs.inner.Twice.{reason_as}
use Rattle.flac_cli.proofs.Back.{parts_back}
use Rattle.flac_cli.proofs.Refused.{accepted, reasoned, refused_plan, refused_stream}
use Rattle.flac_jobs.specs.declared.formats.ContainerKind.{ContainerKind}
use Rattle.flac_jobs.specs.declared.formats.ContainerKind.TheVariants as container
use Rattle.flac_jobs.specs.declared.formats.RawFormat.{RawFormat}
use Rattle.flac_jobs.specs.declared.jobs.Job.{Job}
use Rattle.flac_jobs.specs.declared.jobs.Job.TheVariants as job
use Rattle.flac_jobs.specs.declared.search_effort.SearchEffort.{SearchEffort}
use Rattle.flac_jobs.specs.declared.search_effort.SearchEffort.TheVariants as efforts

-- ---- why bytes are no samples

module _ (profile : Profile) (format : RawFormat) (bytes : List ℕ) where
  pub fault_none : samples.raw_fault profile format bytes ≡ None → raw_fault profile format bytes ≡ None
  fault_none h = ap (option_map refusal_as) h

  pub fault_some : (f : RawFault) → samples.raw_fault profile format bytes ≡ Some f → raw_fault profile format bytes ≡ Some (refusal_as f)
  fault_some f h = ap (option_map refusal_as) h

  -- so a pass stops for the same reason
  pub stops_as : (f : RawFault) → (f ≡ raw.Input why.Memory) ⊎ (samples.raw_fault profile format bytes ≡ Some f) → IsOutside (refusal_as f) ⊎ (raw_fault profile format bytes ≡ Some (refusal_as f))
  stops_as f (inl memory) = inl (inl (ap refusal_as memory))
  stops_as f (inr h) = inr (fault_some f h)

-- the same of bytes of which some were read before, and come again
pub refused_taken : (asked : Asked) (bytes all : List ℕ) (f : RawFault) (r : Refusal) (k km : Bool) (ro rm rn rn' : ℕ) → r ≡ refusal_as f → rn ≡ rn' → rm ≡ ro
    → (k ≡ true → (km ≡ true) × (bytes ≡ all) × (input_fault asked bytes ≡ raw_fault asked.profile asked.format bytes))
    → (km ≡ true → rn' ≡ rm → (f ≡ raw.Input why.Memory) ⊎ (samples.raw_fault asked.profile asked.format all ≡ Some f))
    → (k ≡ true → rn ≡ ro → IsOutside r ⊎ (input_fault asked bytes ≡ Some r))
refused_taken asked bytes all f r k km ro rm rn rn' is new old facts h = λ known same.
    let told = facts known in
    let stops = subst (λ bs. (f ≡ raw.Input why.Memory) ⊎ (samples.raw_fault asked.profile asked.format bs ≡ Some f)) (sym told.1) (h told.0 (sym new ∙ same ∙ sym old)) in
    subst (λ x. IsOutside x ⊎ (input_fault asked bytes ≡ Some x)) (sym is) (as_taken told.2 (stops_as asked.profile asked.format bytes f stops))
  where
    as_taken : input_fault asked bytes ≡ raw_fault asked.profile asked.format bytes → IsOutside (refusal_as f) ⊎ (raw_fault asked.profile asked.format bytes ≡ Some (refusal_as f)) → IsOutside (refusal_as f) ⊎ (input_fault asked bytes ≡ Some (refusal_as f))
    as_taken e (inl out) = inl out
    as_taken e (inr reason) = inr (e ∙ reason)

pub not_written_as : {X : Type 0} (f : RawFault) → refusal_as f ≡ Output encode.Write → X
not_written_as (raw.Input w) h = absurd cc
not_written_as (raw.Setup s) h = absurd cc
not_written_as raw.RawLength h = absurd cc

-- ---- errors of the second pass

-- with Write the target failed
pub fails_as : {S : Type 0} (g : target.Ghosts S) (old : S) (e : RawEncodeFault) → FailsLeft g old e → reason_as e ≡ Some (Output encode.Write) → (left : S) × Fails g old left
fails_as g old (fault.Raw f) h is = not_written_as f (let same : refusal_as f ≡ Output encode.Write = cc in same)
fails_as g old (fault.Encode f) h is = h (let same : f ≡ encode.Write = cc in ap fault.Encode same)
fails_as g old fault.Changed h is = absurd cc

pub same_some : {X : Type 0} (a b : X) → Some a ≡ Some b → a ≡ b
same_some a b h = cc

-- why the calls that write a stream refuse these blocks, by a plan
pub same_stream : (c : ContainerKind) (p : Planned) (list : List Block) → container_fault c p list ≡ stream_fault c (raw_cut p.profile p.format p.total p.predictors) list
same_stream container.Native p list = refl
same_stream (container.Ogg serial) p list = refl

module _ (asked : Asked) (ps : List LinearPredictor) (bytes : List ℕ) (total : ℕ) (are : AreSamples asked.profile asked.format bytes total) where
  -- the plan is that of the samples
  pub cut_of_total : cut_as asked (raw_sound asked.profile asked.format bytes) ps ≡ raw_cut asked.profile asked.format total ps
  cut_of_total = cut_is asked.profile asked.format ps bytes total are.many

  pub plan_refused : input_fault asked bytes ≡ None → (e : SetupFault) → plan_fault (raw_cut asked.profile asked.format total ps) ≡ Some e → refusal asked ps bytes ≡ Some (Setup e)
  plan_refused taken e h = refused_plan asked ps bytes (raw_sound asked.profile asked.format bytes) taken refl e (ap plan_fault cut_of_total ∙ h)

  pub plan_good : plan_fault (raw_cut asked.profile asked.format total ps) ≡ None → plan_fault (cut_as asked (raw_sound asked.profile asked.format bytes) ps) ≡ None
  plan_good h = ap plan_fault cut_of_total ∙ h

  -- there is no reason to refuse them
  pub all_accepted : input_fault asked bytes ≡ None → plan_fault (raw_cut asked.profile asked.format total ps) ≡ None → list_fault info_seen (comment_list asked.words) ≡ None
      → stream_fault asked.container (raw_cut asked.profile asked.format total ps) (comment_list asked.words) ≡ None → refusal asked ps bytes ≡ None
  all_accepted taken good fit stream =
      let p = cut_as asked (raw_sound asked.profile asked.format bytes) ps in
      accepted asked ps bytes (raw_sound asked.profile asked.format bytes) taken refl p refl (plan_good good) (comment_list asked.words) refl fit (subst (λ k. stream_fault asked.container k (comment_list asked.words) ≡ None) (sym cut_of_total) stream)

  -- why the second pass stops
  module _ (search : Option Search) (listed : AreListed asked.list ps) (taken : input_fault asked bytes ≡ None) (good : plan_fault (raw_cut asked.profile asked.format total ps) ≡ None) (fit : list_fault info_seen (comment_list asked.words) ≡ None) where
    abbrev plan : Planned
    plan = planned asked.profile asked.format total ps search

    -- the container
    refused_blocks : (o : Option EncodeFault) (e : RawEncodeFault) (others : List ℕ) → stream_fault asked.container (raw_cut asked.profile asked.format total ps) (comment_list asked.words) ≡ o → option_map fault.Encode o ≡ Some e → IsTwiceReason asked bytes others (reason_as e)
    refused_blocks None e others stream is = absurd cc
    refused_blocks (Some f) e others stream is =
        let p = cut_as asked (raw_sound asked.profile asked.format bytes) ps in
        let same : fault.Encode f ≡ e = same_some (fault.Encode f) e is in
        let why = refused_stream asked ps bytes (raw_sound asked.profile asked.format bytes) taken refl p refl (plan_good good) (comment_list asked.words) refl fit f (inr (subst (λ k. stream_fault asked.container k (comment_list asked.words) ≡ Some f) (sym cut_of_total) stream)) in
        subst (λ x. IsTwiceReason asked bytes others (reason_as x)) same (reasoned asked ps bytes (Output f) listed why)

    second_stops : (others : List ℕ) (e : RawEncodeFault) → TheirIsOutside e ⊎ IsUnfitIn asked.container plan (comment_list asked.words) others e → IsTwiceReason asked bytes others (reason_as e)
    second_stops others e (inl (inl memory)) = subst (λ x. IsTwiceReason asked bytes others (reason_as x)) (sym memory) (inl (inl refl))
    second_stops others e (inl (inr (inl memory))) = subst (λ x. IsTwiceReason asked bytes others (reason_as x)) (sym memory) (inl (inr (inl refl)))
    second_stops others e (inl (inr (inr write))) = subst (λ x. IsTwiceReason asked bytes others (reason_as x)) (sym write) (inl (inr (inr refl)))
    second_stops others e (inr (inl unfit)) = refused_blocks (container_fault asked.container plan (comment_list asked.words)) e others (sym (same_stream asked.container plan (comment_list asked.words))) unfit
    second_stops others e (inr (inr (changed, unlike))) =
        subst (λ x. IsTwiceReason asked bytes others (reason_as x)) (sym changed) (λ same. unlike (subst (λ x. AreSamples asked.profile asked.format x total) (sym same) are))

    -- by the plan of these samples
    pub stops_by : (p : Planned) (list : List Block) (others : List ℕ) (e : RawEncodeFault) → p ≡ plan → list ≡ comment_list asked.words → TheirIsOutside e ⊎ IsUnfitIn asked.container p list others e → IsTwiceReason asked bytes others (reason_as e)
    stops_by p list others e made is stops =
        second_stops others e (subst (λ l. TheirIsOutside e ⊎ IsUnfitIn asked.container plan l others e) is (subst (λ q. TheirIsOutside e ⊎ IsUnfitIn asked.container q list others e) made stops))

-- ---- what is written

-- the lists that a search found
pub found_of : (effort : SearchEffort) (p : Cut) (ps : List LinearPredictor) (list : List Block) (a : Sound) (before after : List Bool) → EncodesFound (search_of effort) (with_predictors p ps) list a before after
    → (found : List (List (List LinearPredictor))) × AreFound effort ps found × Encodes (with_found (with_predictors p ps) found) list a before after
found_of efforts.None p ps list a before after e = ([], record { none = λ _. refl; begins = All-nil (All (IsPrefixOf ps)) }, drafts_are_encoded p ps list a before after e)
found_of efforts.Quick p ps list a before after e =
    let f = found_are_encoded (Some Quick) p ps list a before after e in
    (f.0, record { none = λ none. absurd cc; begins = f.1 }, f.2)
found_of efforts.Full p ps list a before after e =
    let f = found_are_encoded (Some Full) p ps list a before after e in
    (f.0, record { none = λ none. absurd cc; begins = f.1 }, f.2)

-- the same in Ogg
found_in_ogg : (effort : SearchEffort) (serial : ℕ) (p : Cut) (ps : List LinearPredictor) (list : List Block) (a : Sound) (before after : List Bool) → EncodesOggFound (search_of effort) serial (with_predictors p ps) list a before after
    → (found : List (List (List LinearPredictor))) × AreFound effort ps found × EncodesOgg serial (with_found (with_predictors p ps) found) list a before after
found_in_ogg efforts.None serial p ps list a before after e = ([], record { none = λ _. refl; begins = All-nil (All (IsPrefixOf ps)) }, e)
found_in_ogg efforts.Quick serial p ps list a before after e = (e.0, record { none = λ none. absurd cc; begins = e.1 }, e.2)
found_in_ogg efforts.Full serial p ps list a before after e = (e.0, record { none = λ none. absurd cc; begins = e.1 }, e.2)

-- what flac_raw says of it, with these blocks
module _ (asked : Asked) (ps : List LinearPredictor) (list : List Block) (bytes : List ℕ) (total : ℕ) where
  abbrev pub Wrote : ContainerKind → (a : Sound) → (before after : List Bool) → Type 0
  Wrote c a before after = (found : List (List (List LinearPredictor))) × AreFound asked.effort ps found × EncodesIn c (cut_found asked a ps found) list a before after

  pub wrote_in : (c : ContainerKind) (before after : List Bool) → EncodesByIn c (planned asked.profile asked.format total ps (search_of asked.effort)) list bytes before after
      → IsRaw asked.profile asked.format bytes (raw_sound asked.profile asked.format bytes) × Wrote c (raw_sound asked.profile asked.format bytes) before after
  wrote_in container.Native before after e =
      let a = raw_sound asked.profile asked.format bytes in
      (e.raw, found_of asked.effort (cut_of asked.format.block a asked.format.seek_every) ps list a before after e.encodes)
  wrote_in (container.Ogg serial) before after e =
      let a = raw_sound asked.profile asked.format bytes in
      (e.raw, found_in_ogg asked.effort serial (cut_of asked.format.block a asked.format.seek_every) ps list a before after e.encodes)

module _ (asked : Asked) (ps : List LinearPredictor) (bytes : List ℕ) (total : ℕ) (listed : AreListed asked.list ps) where
  their_wrote : AreSamples asked.profile asked.format bytes total → plan_fault (raw_cut asked.profile asked.format total ps) ≡ None → (before after : List Bool)
      → EncodesByIn asked.container (planned asked.profile asked.format total ps (search_of asked.effort)) (comment_list asked.words) bytes before after → EncodesRaw asked bytes before after
  their_wrote are good before after e =
      let a = raw_sound asked.profile asked.format bytes in
      let w = wrote_in asked ps (comment_list asked.words) bytes total asked.container before after e in
      let f = w.1 in
      record {
        audio = a;
        predictors = ps;
        raw = w.0;
        listed = listed;
        found = f.0;
        sought = f.1;
        encodes = f.2;
        back = parts_back asked.container (cut_found asked a ps f.0) a asked.words before after f.2 (still_found (cut_as asked a ps) f.0 (plan_good asked ps bytes total are good)) ∙ w.0.samples;
      }

  -- by the plan of these samples
  pub second_wrote : (p : Planned) (list : List Block) → p ≡ planned asked.profile asked.format total ps (search_of asked.effort) → list ≡ comment_list asked.words → AreSamples p.profile p.format bytes p.total
      → plan_fault (raw_cut asked.profile asked.format total ps) ≡ None → (before after : List Bool) → EncodesByIn asked.container p list bytes before after → EncodesRaw asked bytes before after
  second_wrote p list is same are good before after e =
      their_wrote (subst (λ (q : Planned). AreSamples q.profile q.format bytes q.total) is are) good before after
      (subst (λ l. EncodesByIn asked.container (planned asked.profile asked.format total ps (search_of asked.effort)) l bytes before after) same (subst (λ q. EncodesByIn asked.container q list bytes before after) is e))
