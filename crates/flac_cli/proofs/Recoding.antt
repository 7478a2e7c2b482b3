-- Streams that are encoded anew: why one is refused, and what is written of it.
use Rattle.std.proofs.Common.{◌≡◌, ◌⊎◌, ◌∙◌, ◌++◌, ◌∷◌, ◌+◌, ◌<◌, ℕ, zero, suc, ℤ, Bool, List, [], length, drop, get_or, append_assoc, Option, Some, None, refl, ap, sym, subst, inl, inr, arith}
use Rattle.std.specs.Prelude.{option_map}
use Rattle.std.specs.List.{filter}
use Rattle.std.proofs.lemmas.List.Elements.{filter-append}
use Rattle.flac_bits.specs.State.{After}
use Rattle.flac_bits.specs.declared.why.Why.{Why}
use Rattle.flac_bits.specs.declared.why.Why.TheVariants as why
use Rattle.flac_info.specs.Info.{Info}
use Rattle.flac_meta.specs.Listed.{list_fault, info_seen}
use Rattle.flac_meta.specs.declared.block.Block.{Block}
use Rattle.flac_frame.specs.Audio.{Sound, audio_fault}
use Rattle.flac_frame.specs.Frame.{Frame}
use Rattle.flac_frame.specs.declared.setup.SetupFault.{SetupFault}
use Rattle.flac_subframe.specs.declared.format.linear.LinearPredictor.{LinearPredictor}
use Rattle.flac_native.specs.Given.{Cut, plan_fault}
use Rattle.flac_native.specs.declared.fault.Fault.{Fault}
use Rattle.flac_native.specs.declared.fault.EncodeFault.{EncodeFault}
use Rattle.flac_native.specs.declared.fault.EncodeFault.TheVariants as encode
use Rattle.flac_jobs.specs.Asks.{input_of, output_of, list_of}
use Rattle.flac_jobs.specs.declared.jobs.Job.{Job}
use Rattle.flac_jobs.specs.declared.recodings.Recoding.{Recoding}
use Rattle.flac_cli.specs.Asked.{Asked}
use Rattle.flac_cli.specs.Encoded.{cut_as, cut_found, EncodesIn, BeginsIn}
use Rattle.flac_cli.specs.Outcomes.{reason_text}
use Rattle.flac_cli.specs.Predictors.{AreListed}
use Rattle.flac_cli.specs.inner.Predictors.{IsWrongLine}
use Rattle.flac_cli.specs.Recoded.{heard_in, sound_of, in_order, blocks_in, IsStreamOf, Recodes, HasBegunRecoded}
use Rattle.flac_cli.specs.RecodeRefusals.{files_for, sound_refusal, held_refusal, recoding_refusal, IsInputReason, IsRecodeReason, IsOutside, recode_path, recode_text, IsRecodeReport}
use Rattle.flac_cli.specs.Refusals.{stream_fault, refusal_of, IsOutside as IsOutsideOf}
use Rattle.flac_cli.specs.Reports.{Files, files_of, fault_line}
use Rattle.flac_cli.specs.inner.Holding.{Held, IsHeld, IsReady, IsFaultOf}
use Rattle.flac_cli.specs.inner.Searching.{IsSearched}
use Rattle.flac_cli.specs.declared.encode.Refusal.{Refusal}
use Rattle.flac_cli.specs.declared.encode.Refusal.TheVariants.{Input, Setup, Output}
use Rattle.flac_cli.specs.declared.predictors.ListFault.{ListFault}
use Rattle.flac_cli.specs.declared.predictors.ListFault.TheVariants as faults
use Rattle.flac_cli.specs.declared.recode.RecodeRefusal.{RecodeRefusal}
use Rattle.flac_cli.specs.declared.recode.RecodeRefusal.TheVariants.{Unread, Refused}
use Rattle.flac_cli.proofs.Searched.{cut_is, are_found}

-- ---- blocks, one after another

drop_next : (xs : List Block) (i : ℕ) (x : Block) → i < length xs → x ≡ get_or xs i x → drop i xs ≡ x ∷ drop (i + 1) xs
drop_next [] i x lt is = absurd (omega (arith, lt))
drop_next (y ∷ ys) zero x lt is = ap (λ z. z ∷ ys) (sym is)
drop_next (y ∷ ys) (suc i) x lt is = let e : suc i + 1 ≡ suc (i + 1) = omega arith in rw e (drop_next ys i x (omega (arith, lt)) is)

-- one more that passes or not
pub filtered_more : (p : Block → Bool) (xs : List Block) (i : ℕ) (x : Block) (old new : List Block) → i < length xs → x ≡ get_or xs i x → new ≡ old ++ filter p (x ∷ []) → old ++ filter p (drop i xs) ≡ filter p xs
    → new ++ filter p (drop (i + 1) xs) ≡ filter p xs
filtered_more p xs i x old new lt is more held =
    ap (λ l. l ++ filter p (drop (i + 1) xs)) more ∙ append_assoc old (filter p (x ∷ [])) (filter p (drop (i + 1) xs)) ∙ ap (λ l. old ++ l) (sym (filter-append p (x ∷ []) (drop (i + 1) xs)))
    ∙ ap (λ l. old ++ filter p l) (sym (drop_next xs i x lt is)) ∙ held

-- ---- the first reason, of samples and blocks

module _ (asked : Asked) (ps : List LinearPredictor) (a : Sound) (list : List Block) where
  refused_sound : (e : SetupFault) → audio_fault a.profile a.rate a.bits a.channels ≡ Some e → sound_refusal asked ps a list ≡ Some (Setup e)
  unfolding sound_refusal
  refused_sound e h = rw h refl

  module _ (good : audio_fault a.profile a.rate a.bits a.channels ≡ None) where
    refused_plan : (e : SetupFault) → plan_fault (cut_as asked a ps) ≡ Some e → sound_refusal asked ps a list ≡ Some (Setup e)
    unfolding sound_refusal
    refused_plan e h = rw (good, h) refl

    module _ (fine : plan_fault (cut_as asked a ps) ≡ None) where
      refused_blocks : (e : Why) → (e ≡ why.Memory) ⊎ (list_fault info_seen list ≡ Some e) → IsOutsideOf (Input e) ⊎ (sound_refusal asked ps a list ≡ Some (Input e))
      unfolding sound_refusal
      refused_blocks e (inl h) = inl (inl (ap Input h))
      refused_blocks e (inr h) = inr (rw (good, fine, h) refl)

      container_only : list_fault info_seen list ≡ None → sound_refusal asked ps a list ≡ option_map Output (stream_fault asked.container (cut_as asked a ps) list)
      unfolding sound_refusal
      container_only fit = rw (good, fine, fit) refl

-- ---- of what is held

module _ (asked : Asked) (ps : List LinearPredictor) (held : Held) (i : Info) (some : held.info ≡ Some i) (info : Info) (list : List Block) (channels : List (List ℤ)) (t : IsHeld held info list channels) where
  same_info : i ≡ info
  same_info = inside (sym some ∙ t.stated)
    where
      inside : Some i ≡ Some info → i ≡ info
      inside e = cc

  sound_is : sound_of asked.profile i held.channels ≡ sound_of asked.profile info channels
  sound_is = ap (λ k. sound_of asked.profile k held.channels) same_info ∙ ap (λ cs. sound_of asked.profile info cs) t.heard

  pub held_audio : (e : SetupFault) → audio_fault asked.profile i.rate i.depth held.channels ≡ Some e → IsOutsideOf (Setup e) ⊎ (held_refusal asked ps info list channels ≡ Some (Setup e))
  held_audio e h = inr (refused_sound asked ps (sound_of asked.profile info channels) (blocks_in asked.container list) e (subst (λ (s : Sound). audio_fault s.profile s.rate s.bits s.channels ≡ Some e) sound_is h))

  module _ (a : Sound) (made : a ≡ sound_of asked.profile i held.channels) (good : audio_fault asked.profile i.rate i.depth held.channels ≡ None) where
    a_is : a ≡ sound_of asked.profile info channels
    a_is = made ∙ sound_is

    good_is : let s = sound_of asked.profile info channels in audio_fault s.profile s.rate s.bits s.channels ≡ None
    good_is = subst (λ (s : Sound). audio_fault s.profile s.rate s.bits s.channels ≡ None) sound_is good

    pub held_plan : (e : SetupFault) → plan_fault (cut_as asked a ps) ≡ Some e → IsOutsideOf (Setup e) ⊎ (held_refusal asked ps info list channels ≡ Some (Setup e))
    held_plan e h = inr (refused_plan asked ps (sound_of asked.profile info channels) (blocks_in asked.container list) good_is e (subst (λ s. plan_fault (cut_as asked s ps) ≡ Some e) a_is h))

    module _ (p : Cut) (cut : p ≡ cut_as asked a ps) (fine : plan_fault p ≡ None) where
      cut_in : p ≡ cut_as asked (sound_of asked.profile info channels) ps
      cut_in = cut ∙ ap (λ s. cut_as asked s ps) a_is

      fine_is : plan_fault (cut_as asked (sound_of asked.profile info channels) ps) ≡ None
      fine_is = subst (λ k. plan_fault k ≡ None) cut_in fine

      module _ (ordered : List Block) (order : ordered ≡ in_order asked.container held.blocks) where
        ordered_is : ordered ≡ blocks_in asked.container list
        ordered_is = order ∙ ap (in_order asked.container) t.kept

        pub held_blocks : (e : Why) → list_fault info_seen ordered ≡ Some e → IsOutsideOf (Input e) ⊎ (held_refusal asked ps info list channels ≡ Some (Input e))
        held_blocks e h = refused_blocks asked ps (sound_of asked.profile info channels) (blocks_in asked.container list) good_is fine_is e (inr (subst (λ l. list_fault info_seen l ≡ Some e) ordered_is h))

        pub held_ready : (bs : List Block) → bs ≡ ordered → list_fault info_seen ordered ≡ None → IsReady asked ps info list channels p bs a
        held_ready bs same fit = record {
          sound = a_is;
          cut = cut;
          listed = same ∙ ordered_is;
          good = fine;
          refusal = container_only asked ps (sound_of asked.profile info channels) (blocks_in asked.container list) good_is fine_is (subst (λ l. list_fault info_seen l ≡ None) ordered_is fit)
              ∙ ap (λ k. option_map Output (stream_fault asked.container k (blocks_in asked.container list))) (sym cut_in)
              ∙ ap (λ l. option_map Output (stream_fault asked.container p l)) (sym (same ∙ ordered_is));
        }

-- nothing of a stream was held
pub not_held : {X : Type 0} (h : Held) (info : Info) (list : List Block) (channels : List (List ℤ)) → h.info ≡ None → IsHeld h info list channels → X
not_held h info list channels none t = no (sym none ∙ t.stated)
  where
    no : {Y : Type 0} → None ≡ Some info → Y
    no e = absurd cc

-- ---- of the bytes

module _ (asked : Asked) (ps : List LinearPredictor) (bytes : List ℕ) (follows : After) where
  pub fault_reason : (f : Fault) → (f.why ≡ why.Memory) ⊎ IsFaultOf bytes follows f → IsOutside (Unread f) ⊎ IsInputReason asked ps bytes follows (Some (Unread f))
  fault_reason f (inl m) = inl (inl (f, refl, m))
  fault_reason f (inr h) = inr (inl (f, (h.0, h.1), refl))

  pub held_reason : (e : Refusal) (info : Info) (list : List Block) (frames : List Frame) → IsStreamOf bytes follows info list frames → IsOutsideOf e ⊎ (recoding_refusal asked ps info list frames ≡ Some e)
      → IsOutside (Refused e) ⊎ IsInputReason asked ps bytes follows (Some (Refused e))
  held_reason e info list frames s (inl out) = inl (inr (e, refl, out))
  held_reason e info list frames s (inr h) = inr (inr (info, list, frames, s, sym (ap (λ o. option_map Refused o) h)))

  pub listed_reason : (e : RecodeRefusal) → AreListed asked.list ps → IsOutside e ⊎ IsInputReason asked ps bytes follows (Some e) → IsOutside e ⊎ IsRecodeReason asked bytes follows (Some e)
  listed_reason e listed (inl out) = inl out
  listed_reason e listed (inr h) = inr (inr (ps, listed, h))

  module _ (info : Info) (list : List Block) (frames : List Frame) (p : Cut) (bs : List Block) (a : Sound) (listed : AreListed asked.list ps) (s : IsStreamOf bytes follows info list frames) (is : IsReady asked ps info list (heard_in info frames) p bs a) where
    of_container : (o : Option EncodeFault) → stream_fault asked.container p bs ≡ o → IsRecodeReason asked bytes follows (option_map Refused (option_map Output o))
    of_container o e = inr (ps, listed, inr (info, list, frames, s, sym (ap (λ k. option_map Refused k) (is.refusal ∙ ap (λ k. option_map Output k) e))))

    pub accepted : stream_fault asked.container p bs ≡ None → IsRecodeReason asked bytes follows None
    accepted e = of_container None e

    pub container_reason : (e : EncodeFault) → IsOutsideOf (Output e) ⊎ (stream_fault asked.container p bs ≡ Some e) → IsOutside (Refused (Output e)) ⊎ IsRecodeReason asked bytes follows (Some (Refused (Output e)))
    container_reason e (inl out) = inl (inr (Output e, refl, out))
    container_reason e (inr h) = inr (of_container (Some e) h)

    module _ (q : Cut) (tried : IsSearched asked.effort p q) (before after : List Bool) where
      pub written : EncodesIn asked.container q bs a before after → Recodes asked bytes follows before after
      written e = record {
        info = info;
        list = list;
        frames = frames;
        read = s;
        predictors = ps;
        listed = listed;
        found = tried.found;
        sought = are_found asked a ps p q is.cut tried;
        encodes = subst (λ (z : Sound). EncodesIn asked.container (cut_found asked z ps tried.found) (blocks_in asked.container list) z before after) is.sound
            (subst (λ l. EncodesIn asked.container (cut_found asked a ps tried.found) l a before after) is.listed
            (subst (λ k. EncodesIn asked.container k bs a before after) (cut_is asked a ps p q is.cut tried) e));
      }

      pub begun : {X : Type 0} → (X → after ≡ before) → X ⊎ BeginsIn asked.container q bs a before after → HasBegunRecoded asked bytes follows before after
      begun same (inl x) = inl (same x)
      begun same (inr e) = inr (record {
        info = info;
        list = list;
        frames = frames;
        read = s;
        predictors = ps;
        listed = listed;
        found = tried.found;
        sought = are_found asked a ps p q is.cut tried;
        begins = subst (λ (z : Sound). BeginsIn asked.container (cut_found asked z ps tried.found) (blocks_in asked.container list) z before after) is.sound
            (subst (λ l. BeginsIn asked.container (cut_found asked a ps tried.found) l a before after) is.listed
            (subst (λ k. BeginsIn asked.container k bs a before after) (cut_is asked a ps p q is.cut tried) e));
      })

-- a line of the list that is no predictor is the first reason
pub refused_line : (asked : Asked) (bytes : List ℕ) (follows : After) (f : ListFault) → (f ≡ faults.Memory) ⊎ IsWrongLine asked.list f
    → IsOutside (Refused (refusal_of f)) ⊎ IsRecodeReason asked bytes follows (Some (Refused (refusal_of f)))
refused_line asked bytes follows faults.Memory h = inl (inr (Input why.Memory, refl, inl refl))
refused_line asked bytes follows (faults.Line number) (inl h) = absurd cc
refused_line asked bytes follows (faults.Line number) (inr h) = inr (inl (number, h, refl))

pub no_memory : (asked : Asked) (bytes : List ℕ) (follows : After) (e : Why) → e ≡ why.Memory → IsOutside (Refused (Input e)) ⊎ IsRecodeReason asked bytes follows (Some (Refused (Input e)))
no_memory asked bytes follows e h = inl (inr (Input e, refl, inl (ap Input h)))

-- ---- failed writes

pub same_refused : (r s : Refusal) → Refused r ≡ Refused s → r ≡ s
same_refused r s h = cc

pub not_refused : {X : Type 0} (r s : Refusal) → (r ≡ s → X) → Refused r ≡ Refused s → X
not_refused r s f h = f (same_refused r s h)

pub not_unread : {X : Type 0} (f : Fault) (s : Refusal) → Unread f ≡ Refused s → X
not_unread f s h = absurd cc

-- ---- what is reported

-- the files of the encoding in its place
pub same_files : (r : Recoding) (j : Job) → input_of j ≡ r.input.now → output_of j ≡ Some r.output.now → list_of j ≡ option_map (λ path. path.now) r.predictors → files_of j ≡ files_for r
same_files r j input output list = rw (input, output, list) refl

pub recode_reported : (asked : Asked) (bytes : List ℕ) (follows : After) (files : Files) (e : RecodeRefusal) (status : ℕ) (before now : List ℕ) → status ≡ 1 → now ≡ before ++ fault_line (recode_path files e) (recode_text e)
    → (e ≡ Refused (Output encode.Write) → ⊥) → IsOutside e ⊎ IsRecodeReason asked bytes follows (Some e) → IsRecodeReport asked bytes follows files status before now
recode_reported asked bytes follows files e status before now one line never (inr h) = inl (Some e, h, (one, line))
recode_reported asked bytes follows files e status before now one line never (inl (inl (f, is, m))) =
    inr (Some f.at, one, subst (λ w. now ≡ before ++ fault_line files.input (reason_text (Some f.at) w)) m (subst (λ k. now ≡ before ++ fault_line (recode_path files k) (recode_text k)) is line))
recode_reported asked bytes follows files e status before now one line never (inl (inr (r, is, inl m))) =
    inr (None, one, subst (λ k. now ≡ before ++ fault_line (recode_path files k) (recode_text k)) (is ∙ ap Refused m) line)
recode_reported asked bytes follows files e status before now one line never (inl (inr (r, is, inr (inl m)))) =
    inr (None, one, subst (λ k. now ≡ before ++ fault_line (recode_path files k) (recode_text k)) (is ∙ ap Refused m) line)
recode_reported asked bytes follows files e status before now one line never (inl (inr (r, is, inr (inr w)))) = absurd (never (is ∙ ap Refused w))

-- a target that serves did not fail
pub served : {X : Type 0} (m n : ℕ) → m < n → n ≡ m → X
served m n lt same = absurd (omega (arith, lt, same))
