-- What is made of what is left of a damaged stream.
use Rattle.std.proofs.Common.{◌≡◌, ◌⊎◌, ◌∙◌, ◌++◌, ◌∷◌, ℕ, ℤ, Bool, true, false, List, [], Option, Some, None, Result, Ok, Err, refl, ap, sym, subst, inl, inr, append-nil, arith}
use Rattle.std.specs.Prelude.{option_map}
use Rattle.flac_bits.specs.Sending.{Sends}
use Rattle.flac_bits.specs.declared.why.Why.{Why}
use Rattle.flac_bits.specs.declared.why.Why.TheVariants as why
use Rattle.flac_bits.specs.declared.target.Target as target
use Rattle.flac_frame.specs.Audio.{Sound}
use Rattle.flac_info.specs.Info.{Info}
use Rattle.flac_meta.specs.declared.block.Block.{Block}
use Rattle.flac_meta.specs.declared.block.Block.TheVariants as block_of
use Rattle.flac_native.specs.Given.{Cut}
use Rattle.flac_native.specs.declared.fault.EncodeFault.{EncodeFault}
use Rattle.flac_native.specs.declared.fault.EncodeFault.TheVariants as encode
use Rattle.flac_subframe.specs.declared.format.linear.LinearPredictor.{LinearPredictor}
use Rattle.flac_rescue.specs.Salvaged.{is_too_long}
use Rattle.flac_rescue.specs.Survey.{IsSurvey, IsSurveyFault}
use Rattle.flac_rescue.specs.declared.salvage.SalvageFault.{SalvageFault}
use Rattle.flac_rescue.specs.declared.salvage.SalvageFault.TheVariants as salvaging
use Rattle.flac_rescue.specs.declared.survey.Survey.{Survey}
use Rattle.flac_rescue.specs.declared.survey.SurveyFault.{SurveyFault}
use Rattle.flac_rescue.specs.declared.survey.SurveyFault.TheVariants as surveying
use Rattle.flac_whole_pages.specs.Left.{IsNativeLeft}
use Rattle.flac_whole_pages.specs.declared.left.Left.{Left}
use Rattle.flac_cli.specs.Asked.{Asked}
use Rattle.flac_cli.specs.Encoded.{cut_found, EncodesIn, BeginsIn}
use Rattle.flac_cli.specs.Recoded.{blocks_in, carried}
use Rattle.flac_cli.specs.Outcomes.{reason_text}
use Rattle.flac_cli.specs.RecodeRefusals.{held_refusal, IsOutside, recode_path, recode_text}
use Rattle.flac_cli.specs.Refusals.{stream_fault, IsOutside as IsOutsideOf}
use Rattle.flac_cli.specs.Reports.{Files, fault_line}
use Rattle.flac_cli.specs.Salvages.{fitting, IsLeft, Salvages, HasBegunSalvaged, HasBegunInput, IsSalvageReason, IsInputReason, IsSalvageRefusal, survey_refusal, salvage_refusal}
use Rattle.flac_cli.specs.declared.encode.Refusal.{Refusal}
use Rattle.flac_cli.specs.declared.encode.Refusal.TheVariants.{Input, Output}
use Rattle.flac_cli.specs.declared.recode.RecodeRefusal.{RecodeRefusal}
use Rattle.flac_cli.specs.declared.recode.RecodeRefusal.TheVariants.{Refused}
use Rattle.flac_cli.specs.inner.Holding.{IsReady}
use Rattle.flac_cli.specs.inner.Salvaging.{AreLinesFor}
use Rattle.flac_cli.specs.inner.Searching.{IsSearched}
use Rattle.flac_cli.proofs.Searched.{cut_is, are_found}

-- all bytes of a source that has none left
pub all_of : (bytes coming rest : List ℕ) → coming ≡ bytes ++ rest → rest ≡ [] → bytes ≡ coming
all_of bytes coming rest is none = sym (append-nil bytes) ∙ ap (λ l. bytes ++ l) (sym none) ∙ sym is

-- what holds of bytes and a filling holds of those that are the same
pub moved : (P : Bool → List ℕ → Type 0) (b d : Bool) (xs ys : List ℕ) → b ≡ d → xs ≡ ys → P b xs → P d ys
moved P b d xs ys is same held = subst (λ l. P d l) same (subst (λ k. P k xs) is held)

-- ---- what is written

-- STREAMINFO is not among the blocks that are carried on
pub begun_fits : (shorter : Bool) (i : Info) (list : List Block) → carried (fitting shorter (block_of.StreamInfo i ∷ list)) ≡ carried (fitting shorter list)
begun_fits true i list = refl
begun_fits false i list = refl

module _ (asked : Asked) (silence : Bool) (bytes : List ℕ) (s : Survey) (list : List Block) (channels : List (List ℤ)) (left : IsLeft silence bytes s list channels)
    (p : Cut) (bs : List Block) (a : Sound) (is : IsReady asked [] s.info list channels p bs a) (q : Cut) (tried : IsSearched asked.effort p q) (before after : List Bool) where
  pub written : EncodesIn asked.container q bs a before after → Salvages asked silence bytes before after
  written e = record {
    survey = s;
    list = list;
    channels = channels;
    left = left;
    found = tried.found;
    sought = are_found asked a [] p q is.cut tried;
    encodes = subst (λ (z : Sound). EncodesIn asked.container (cut_found asked z [] tried.found) (blocks_in asked.container list) z before after) is.sound
        (subst (λ l. EncodesIn asked.container (cut_found asked a [] tried.found) l a before after) is.listed
        (subst (λ k. EncodesIn asked.container k bs a before after) (cut_is asked a [] p q is.cut tried) e));
  }

  pub begun : {X : Type 0} → (X → after ≡ before) → X ⊎ BeginsIn asked.container q bs a before after → HasBegunSalvaged asked silence bytes before after
  begun same (inl x) = inl (same x)
  begun same (inr e) = inr (record {
    survey = s;
    list = list;
    channels = channels;
    left = left;
    found = tried.found;
    sought = are_found asked a [] p q is.cut tried;
    begins = subst (λ (z : Sound). BeginsIn asked.container (cut_found asked z [] tried.found) (blocks_in asked.container list) z before after) is.sound
        (subst (λ l. BeginsIn asked.container (cut_found asked a [] tried.found) l a before after) is.listed
        (subst (λ k. BeginsIn asked.container k bs a before after) (cut_is asked a [] p q is.cut tried) e));
  })

-- ---- reasons

-- memory that ran out is no reason of the stream
pub no_memory : {X : Type 0} (e : Why) → e ≡ why.Memory → IsOutside (Refused (Input e)) ⊎ X
no_memory e h = inl (inr (Input e, refl, inl (ap Input h)))

-- no samples are made
pub unmade : (silence : Bool) (s : Survey) (e : SalvageFault) → (e ≡ salvaging.Memory) ⊎ ((e ≡ salvaging.TooLong) × (is_too_long silence s ≡ true))
    → IsOutside (salvage_refusal e) ⊎ ((salvage_refusal e ≡ salvage_refusal salvaging.TooLong) × (is_too_long silence s ≡ true))
unmade silence s e (inl h) = inl (inr (Input why.Memory, ap salvage_refusal h, inl refl))
unmade silence s e (inr (h, long)) = inr (ap salvage_refusal h, long)

module _ (asked : Asked) (silence : Bool) (bytes : List ℕ) where
  pub unsurveyed : (e : SurveyFault) → IsSurveyFault bytes e → IsOutside (survey_refusal e) ⊎ IsSalvageReason asked silence bytes (Some (survey_refusal e))
  unsurveyed e h = inr (inl (e, h, refl))

  module _ (s : Survey) (is : IsSurvey bytes s) where
    pub unheld : (e : RecodeRefusal) → IsOutside e ⊎ ((e ≡ salvage_refusal salvaging.TooLong) × (is_too_long silence s ≡ true)) → IsOutside e ⊎ IsSalvageReason asked silence bytes (Some e)
    unheld e (inl out) = inl out
    unheld e (inr (h, long)) = inr (inr (inl (s, is, long, ap Some h)))

  module _ (s : Survey) (list : List Block) (channels : List (List ℤ)) (left : IsLeft silence bytes s list channels) where
    pub left_reason : (ps : List LinearPredictor) → ps ≡ [] → (e : Refusal) → IsOutsideOf e ⊎ (held_refusal asked ps s.info list channels ≡ Some e) → IsOutside (Refused e) ⊎ IsSalvageReason asked silence bytes (Some (Refused e))
    left_reason ps none e (inl out) = inl (inr (e, refl, out))
    left_reason ps none e (inr h) =
        let same : held_refusal asked [] s.info list channels ≡ Some e = sym (ap (λ k. held_refusal asked k s.info list channels) none) ∙ h in
        inr (inr (inr (s, list, channels, left, sym (ap (λ o. option_map Refused o) same))))

    module _ (p : Cut) (bs : List Block) (a : Sound) (is : IsReady asked [] s.info list channels p bs a) where
      of_container : (o : Option EncodeFault) → stream_fault asked.container p bs ≡ o → IsSalvageReason asked silence bytes (option_map Refused (option_map Output o))
      of_container o e = inr (inr (s, list, channels, left, sym (ap (λ k. option_map Refused k) (is.refusal ∙ ap (λ k. option_map Output k) e))))

      pub accepted : stream_fault asked.container p bs ≡ None → IsSalvageReason asked silence bytes None
      accepted e = of_container None e

      pub container_reason : (e : EncodeFault) → IsOutsideOf (Output e) ⊎ (stream_fault asked.container p bs ≡ Some e) → IsOutside (Refused (Output e)) ⊎ IsSalvageReason asked silence bytes (Some (Refused (Output e)))
      container_reason e (inl out) = inl (inr (Output e, refl, out))
      container_reason e (inr h) = inr (of_container (Some e) h)

  pub salvage_reported : (files : Files) (e : RecodeRefusal) (before now : List ℕ) → now ≡ before ++ fault_line (recode_path files e) (recode_text e)
      → (e ≡ Refused (Output encode.Write) → ⊥) → IsOutside e ⊎ IsInputReason asked silence bytes (Some e) → IsSalvageRefusal asked silence files bytes before now
  salvage_reported files e before now line never (inr h) = inl (e, h, line)
  salvage_reported files e before now line never (inl (inl (f, is, m))) =
      inr (Some f.at, subst (λ w. now ≡ before ++ fault_line files.input (reason_text (Some f.at) w)) m (subst (λ k. now ≡ before ++ fault_line (recode_path files k) (recode_text k)) is line))
  salvage_reported files e before now line never (inl (inr (r, is, inl m))) =
      inr (None, subst (λ k. now ≡ before ++ fault_line (recode_path files k) (recode_text k)) (is ∙ ap Refused m) line)
  salvage_reported files e before now line never (inl (inr (r, is, inr (inl m)))) =
      inr (None, subst (λ k. now ≡ before ++ fault_line (recode_path files k) (recode_text k)) (is ∙ ap Refused m) line)
  salvage_reported files e before now line never (inl (inr (r, is, inr (inr w)))) = absurd (never (is ∙ ap Refused w))

-- of the same bytes and filling
pub moved_reason : (asked : Asked) (b d : Bool) (xs ys : List ℕ) (e : RecodeRefusal) → b ≡ d → xs ≡ ys → IsOutside e ⊎ IsInputReason asked b xs (Some e) → IsOutside e ⊎ IsInputReason asked d ys (Some e)
moved_reason asked b d xs ys e is same (inl out) = inl out
moved_reason asked b d xs ys e is same (inr h) = inr (moved (λ k l. IsInputReason asked k l (Some e)) b d xs ys is same h)

pub moved_lines : (path text xs ys : List ℕ) → xs ≡ ys → AreLinesFor path text xs → AreLinesFor path text ys
moved_lines path text xs ys same h = subst (λ l. AreLinesFor path text l) same h

pub same_reason : (asked : Asked) (silence : Bool) (xs ys : List ℕ) (e : RecodeRefusal) → xs ≡ ys → IsOutside e ⊎ IsSalvageReason asked silence xs (Some e) → IsOutside e ⊎ IsSalvageReason asked silence ys (Some e)
same_reason asked silence xs ys e same h = subst (λ l. IsOutside e ⊎ IsSalvageReason asked silence l (Some e)) same h

-- ---- what is left in an input

module _ (asked : Asked) (silence : Bool) (input : List ℕ) (left : Left) (native : IsNativeLeft input left) where
  pub begun_of_left : (before after : List Bool) → HasBegunSalvaged asked silence left.bytes.items before after → HasBegunInput asked silence input before after
  begun_of_left before after (inl same) = inl same
  begun_of_left before after (inr begins) = inr (record { left = left; native = native; says = begins })

  pub reason_of_left : (e : RecodeRefusal) → IsOutside e ⊎ IsSalvageReason asked silence left.bytes.items (Some e) → IsOutside e ⊎ IsInputReason asked silence input (Some e)
  reason_of_left e (inl out) = inl out
  reason_of_left e (inr h) = inr (record { left = left; native = native; says = h })

-- ---- failed writes

pub not_salvage : {X : Type 0} (e : SalvageFault) → salvage_refusal e ≡ Refused (Output encode.Write) → X
not_salvage salvaging.Memory h = absurd cc
not_salvage salvaging.TooLong h = absurd cc

pub not_survey : {X : Type 0} (e : SurveyFault) → survey_refusal e ≡ Refused (Output encode.Write) → X
not_survey (surveying.Head fault) h = absurd cc
not_survey surveying.Memory h = absurd cc
not_survey surveying.Unordered h = absurd cc

pub not_input : {X : Type 0} (e : Why) → Refused (Input e) ≡ Refused (Output encode.Write) → X
not_input e h = absurd cc

-- ---- what is printed

-- a target that was sent a text, if none of its errors was counted
pub told : {S X E : Type 0} (g : target.Ghosts S) (text : List ℕ) (old new : S) (r : Result X E) → Sends g text old new r → g.known old ≡ true → g.errors new ≡ g.errors old → g.sent new ≡ g.sent old ++ text
told g text old new (Ok x) s known same = s.sent known
told g text old new (Err e) s known same = let less = s.rises known in absurd (omega (arith, less, same))
