-- Why raw samples are refused.
use Rattle.std.proofs.Common.{◌≡◌, ◌≢◌, ◌↔◌, ◌⊎◌, ◌*◌, ◌%◌, ◌&&◌, not, ℕ, Bool, true, false, cond, ℤ, List, ◌++◌, length, Some, None, is_some, option_map, Result, Ok, Err, OnOk, IfErr, refl, sym, ap, ◌∙◌, subst, inl, inr}
use Rattle.flac_bits.specs.declared.why.Why.{Why}
use Rattle.flac_bits.specs.declared.why.Why.TheVariants as why
use Rattle.flac_header.specs.declared.subset.Profile.{Profile}
use Rattle.flac_meta.specs.Listed.{list_fault, info_seen}
use Rattle.flac_meta.specs.declared.block.Block.{Block}
use Rattle.flac_frame.specs.Audio.{Sound, IsSound, audio_fault}
use Rattle.flac_frame.specs.declared.setup.SetupFault.{SetupFault}
use Rattle.flac_subframe.specs.declared.format.linear.LinearPredictor.{LinearPredictor}
use Rattle.flac_native.specs.Given.{Cut, plan_fault}
use Rattle.flac_native.specs.Message.{sample_width}
use Rattle.flac_native.specs.declared.fault.EncodeFault.{EncodeFault}
use Rattle.flac_native.specs.Numbers.{is_of_whole}
use Rattle.flac_native.specs.declared.fault.EncodeFault.TheVariants.{Memory, RepeatedBlock, BadMapping, Write}
use Rattle.flac_native.specs.declared.fault.EncodeFault.TheVariants as encode
use Rattle.flac_cli.specs.Asked.{Asked}
use Rattle.flac_cli.specs.Encoded.{comment_list, cut_as}
use Rattle.flac_cli.specs.Predictors.{AreListed}
use Rattle.flac_cli.specs.inner.Predictors.{IsWrongLine}
use Rattle.flac_raw.specs.Faults.{format_fault}
use Rattle.flac_raw.specs.Raw.{raw_sound}
use Rattle.flac_raw.specs.Reading.{AreChannels}
use Rattle.flac_raw.proofs.Refused.{bad_format as their_bad_format, bad_samples as their_bad_samples, good_samples as their_good_samples}
use Rattle.flac_cli.specs.Refusals.{refusal_as, raw_fault, input_fault, stream_fault, refusal, refusal_of, IsReason, IsOutside}
use Rattle.flac_cli.specs.Reports.{Files, fault_line, path_of, line_text, IsReport}
use Rattle.flac_cli.specs.declared.encode.Refusal.{Refusal}
use Rattle.flac_cli.specs.declared.encode.Refusal.TheVariants.{Input, Setup, NotRaw, Output}
use Rattle.flac_cli.specs.declared.predictors.ListFault.{ListFault}
use Rattle.flac_cli.specs.declared.predictors.ListFault.TheVariants as faults
use Rattle.flac_jobs.specs.Kinds.{file_kind}
use Rattle.flac_jobs.specs.declared.formats.RawFormat.{RawFormat}

-- ---- raw samples

module _ (profile : Profile) (format : RawFormat) (raw : List ℕ) where
  pub bad_format : (e : SetupFault) → Some e ≡ format_fault profile format → raw_fault profile format raw ≡ Some (Setup e)
  bad_format e h = ap (option_map refusal_as) (their_bad_format profile format raw e h)

  pub bad_samples : (n : ℕ) (e : SetupFault) (bytes : List ℕ) (channels : List (List ℤ)) → None ≡ format_fault profile format → n ≡ length raw → n % (format.channels * sample_width format.bits) ≡ 0
      → AreChannels bytes format.channels (sample_width format.bits) channels → bytes ≡ raw → audio_fault profile format.rate format.bits channels ≡ Some e → raw_fault profile format raw ≡ Some (Setup e)
  bad_samples n e bytes channels h is whole are same fault = ap (option_map refusal_as) (their_bad_samples profile format raw n e bytes channels h is whole are same fault)

  pub good_samples : (n : ℕ) (a : Sound) → None ≡ format_fault profile format → n ≡ length raw → n % (format.channels * sample_width format.bits) ≡ 0
      → a ≡ raw_sound profile format raw → IsSound a → raw_fault profile format raw ≡ None
  good_samples n a h same whole is sound = ap (option_map refusal_as) (their_good_samples profile format raw n a h same whole is sound)

-- ---- bytes that are taken as raw samples, or are not

module _ (asked : Asked) (bytes : List ℕ) where
  pub bad_asked_format : (e : SetupFault) → Some e ≡ format_fault asked.profile asked.format → input_fault asked bytes ≡ Some (Setup e)
  unfolding input_fault
  bad_asked_format e h = rw (sym h) refl

  module _ (refused : Bool) (is : refused ≡ (not asked.any && is_some (file_kind bytes))) (good : None ≡ format_fault asked.profile asked.format) where
    pub not_taken : refused ≡ true → input_fault asked bytes ≡ Some NotRaw
    unfolding input_fault
    not_taken h =
        let e : (not asked.any && is_some (file_kind bytes)) ≡ true = sym is ∙ h in
        rw (sym good, e) refl

    pub taken : refused ≡ false → input_fault asked bytes ≡ raw_fault asked.profile asked.format bytes
    unfolding input_fault
    taken h =
        let e : (not asked.any && is_some (file_kind bytes)) ≡ false = sym is ∙ h in
        rw (sym good, e) refl

-- ---- the calls that write a stream

pub native_accepts : {A : Type 0} (r : Result A EncodeFault) (b : Bool) → ((r ≡ Err RepeatedBlock) ↔ (b ≡ true)) → OnOk r (cond b (Some RepeatedBlock) None ≡ None)
native_accepts (Ok a) true h = let e = h.1 refl in absurd cc
native_accepts (Ok a) false h = refl
native_accepts (Err e) b h = tt

pub native_refuses : {A : Type 0} (r : Result A EncodeFault) (b : Bool) → ((r ≡ Err RepeatedBlock) ↔ (b ≡ true)) → r ≢ Err BadMapping
    → IfErr r (λ e. is_of_whole e ≡ true) → IfErr r (λ e. IsOutside (Output e) ⊎ (cond b (Some RepeatedBlock) None ≡ Some e))
native_refuses (Ok a) b h other whole = tt
native_refuses (Err Memory) b h other whole = inl (inr (inl refl))
native_refuses (Err RepeatedBlock) b h other whole = inr (rw (h.0 refl) refl)
native_refuses (Err encode.BlockSize) b h other whole = absurd cc
native_refuses (Err BadMapping) b h other whole = absurd (other refl)
native_refuses (Err encode.Spent) b h other whole = absurd cc
native_refuses (Err Write) b h other whole = inl (inr (inr refl))
native_refuses (Err (encode.Setup f)) b h other whole = absurd cc

pub ogg_accepts : {A : Type 0} (r : Result A EncodeFault) (b : Bool) → ((r ≡ Err BadMapping) ↔ (b ≡ false)) → OnOk r (cond b None (Some BadMapping) ≡ None)
ogg_accepts (Ok a) true h = refl
ogg_accepts (Ok a) false h = let e = h.1 refl in absurd cc
ogg_accepts (Err e) b h = tt

pub ogg_refuses : {A : Type 0} (r : Result A EncodeFault) (b : Bool) → ((r ≡ Err BadMapping) ↔ (b ≡ false)) → r ≢ Err RepeatedBlock
    → IfErr r (λ e. is_of_whole e ≡ true) → IfErr r (λ e. IsOutside (Output e) ⊎ (cond b None (Some BadMapping) ≡ Some e))
ogg_refuses (Ok a) b h other whole = tt
ogg_refuses (Err Memory) b h other whole = inl (inr (inl refl))
ogg_refuses (Err RepeatedBlock) b h other whole = absurd (other refl)
ogg_refuses (Err encode.BlockSize) b h other whole = absurd cc
ogg_refuses (Err BadMapping) b h other whole = inr (rw (h.0 refl) refl)
ogg_refuses (Err encode.Spent) b h other whole = absurd cc
ogg_refuses (Err Write) b h other whole = inl (inr (inr refl))
ogg_refuses (Err (encode.Setup f)) b h other whole = absurd cc

-- ---- the first reason

-- a line of the list that is no predictor is the first
pub refused_list : (asked : Asked) (bytes : List ℕ) (f : ListFault) → (f ≡ faults.Memory) ⊎ IsWrongLine asked.list f → IsOutside (refusal_of f) ⊎ IsReason asked bytes (Some (refusal_of f))
refused_list asked bytes faults.Memory h = inl (inl refl)
refused_list asked bytes (faults.Line number) (inl h) = absurd cc
refused_list asked bytes (faults.Line number) (inr h) = inr (inl (number, h, refl))

module _ (asked : Asked) (ps : List LinearPredictor) (bytes : List ℕ) where
  -- so is what is refused with the list's predictors
  pub reasoned : (r : Refusal) → AreListed asked.list ps → IsOutside r ⊎ (refusal asked ps bytes ≡ Some r) → IsOutside r ⊎ IsReason asked bytes (Some r)
  reasoned r listed (inl out) = inl out
  reasoned r listed (inr h) = inr (inr (ps, listed, sym h))

  pub unreasoned : AreListed asked.list ps → refusal asked ps bytes ≡ None → IsReason asked bytes None
  unreasoned listed h = inr (ps, listed, sym h)

  pub refused_raw : (e : Refusal) → IsOutside e ⊎ (input_fault asked bytes ≡ Some e) → IsOutside e ⊎ (refusal asked ps bytes ≡ Some e)
  unfolding refusal
  refused_raw e (inl out) = inl out
  refused_raw e (inr h) = inr (rw h refl)

  module _ (a : Sound) (raw : input_fault asked bytes ≡ None) (is : a ≡ raw_sound asked.profile asked.format bytes) where
    pub refused_plan : (e : SetupFault) → plan_fault (cut_as asked a ps) ≡ Some e → refusal asked ps bytes ≡ Some (Setup e)
    unfolding refusal
    refused_plan e h =
        let plan : plan_fault (cut_as asked (raw_sound asked.profile asked.format bytes) ps) ≡ Some e = subst (λ s. plan_fault (cut_as asked s ps) ≡ Some e) is h in
        rw (raw, plan) refl

    module _ (p : Cut) (cut : p ≡ cut_as asked a ps) (good : plan_fault p ≡ None) where
      raw_cut : p ≡ cut_as asked (raw_sound asked.profile asked.format bytes) ps
      raw_cut = cut ∙ ap (λ s. cut_as asked s ps) is

      planned_raw : plan_fault (cut_as asked (raw_sound asked.profile asked.format bytes) ps) ≡ None
      planned_raw = subst (λ k. plan_fault k ≡ None) raw_cut good

      pub refused_words : (e : Why) → (e ≡ why.Memory) ⊎ (list_fault info_seen (comment_list asked.words) ≡ Some e) → IsOutside (Input e) ⊎ (refusal asked ps bytes ≡ Some (Input e))
      unfolding refusal
      refused_words e (inl h) = inl (inl (ap Input h))
      refused_words e (inr h) = inr (rw (raw, planned_raw, h) refl)

      module _ (l : List Block) (listed : l ≡ comment_list asked.words) (fit : list_fault info_seen (comment_list asked.words) ≡ None) where
        pub refused_stream : (e : EncodeFault) → IsOutside (Output e) ⊎ (stream_fault asked.container p l ≡ Some e) → IsOutside (Output e) ⊎ (refusal asked ps bytes ≡ Some (Output e))
        unfolding refusal
        refused_stream e (inl out) = inl out
        refused_stream e (inr h) =
            let stream : stream_fault asked.container (cut_as asked (raw_sound asked.profile asked.format bytes) ps) (comment_list asked.words) ≡ Some e =
            subst (λ k. stream_fault asked.container k (comment_list asked.words) ≡ Some e) raw_cut (subst (λ bs. stream_fault asked.container p bs ≡ Some e) listed h) in
            inr (rw (raw, planned_raw, fit, stream) refl)

        pub accepted : stream_fault asked.container p l ≡ None → refusal asked ps bytes ≡ None
        unfolding refusal
        accepted h =
            let stream : stream_fault asked.container (cut_as asked (raw_sound asked.profile asked.format bytes) ps) (comment_list asked.words) ≡ None =
            subst (λ k. stream_fault asked.container k (comment_list asked.words) ≡ None) raw_cut (subst (λ bs. stream_fault asked.container p bs ≡ None) listed h) in
            rw (raw, planned_raw, fit, stream) refl

-- what is reported of an encoding that is refused, if the target did not fail
pub reported : (asked : Asked) (bytes : List ℕ) (files : Files) (e : Refusal) (status : ℕ) (before after : List ℕ) → status ≡ 1 → after ≡ before ++ fault_line (path_of files e) (line_text e)
    → (e ≡ Output Write → ⊥) → IsOutside e ⊎ IsReason asked bytes (Some e) → IsReport asked bytes files status before after
reported asked bytes files e status before after one line never (inr h) = inl (Some e, h, (one, line))
reported asked bytes files e status before after one line never (inl (inl m)) = inr (one, subst (λ r. after ≡ before ++ fault_line (path_of files r) (line_text r)) m line)
reported asked bytes files e status before after one line never (inl (inr (inl m))) = inr (one, subst (λ r. after ≡ before ++ fault_line (path_of files r) (line_text r)) m line)
reported asked bytes files e status before after one line never (inl (inr (inr w))) = absurd (never w)
