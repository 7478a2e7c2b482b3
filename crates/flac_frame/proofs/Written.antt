-- A frame that was chosen, as it is written.
use Rattle.std.proofs.Common.{◌≡◌, ◌∙◌, sym, ap, subst, ℕ, ◌≤◌, arith, ℤ, List, length, Some, Result, nat_lt, flat_map}
use Rattle.flac_bits.specs.Written.{Written, Writes}
use Rattle.flac_bits.specs.declared.why.Why.{Why}
use Rattle.flac_header.specs.Header.{Header}
use Rattle.flac_header.specs.Choice.{chosen_header}
use Rattle.flac_header.specs.Spelling.{restarted}
use Rattle.flac_subframe.specs.format.Spelling.{subframe_spelling}
use Rattle.flac_subframe.specs.format.Subframe.{Form}
use Rattle.flac_frame.specs.Audio.{Sound}
use Rattle.flac_frame.specs.Chosen.{forms_by_plane, AreMadeByPlane, IsChoiceByPlane}
use Rattle.flac_frame.specs.PlaneLists.{Lists, lists_kept}
use Rattle.flac_frame.specs.Encoding.{WritesFrameByPlane}
use Rattle.flac_frame.specs.inner.Pair.{IsPairCode}
use Rattle.flac_frame.specs.Spelling.{FrameForm, frame_spelling, subframes_spelling}
use Rattle.flac_frame.specs.Stereo.{kept_as}
use Rattle.flac_frame.specs.declared.frame_choice.FrameChoice.{FrameChoice}
use Rattle.flac_frame.proofs.Family.{coded_as, code_once, kept_same, lists_same}
use Rattle.flac_frame.proofs.PairLeast.{pair_codes}
use Rattle.flac_frame.proofs.Wholes.{frame_parts, text_is, texts_are}

inner : (a b : Header) → Some a ≡ Some b → a ≡ b
inner a b e = cc

module _ (lists : Lists) (sound : Sound) (size number : ℕ) (block : List (List ℤ)) (c : FrameChoice) (is : IsChoiceByPlane lists sound size number block c) where
  abbrev forms : List Form
  forms = forms_by_plane (lists_kept c.code lists) c.subframes.items (kept_as c.code block)

  own_code : is.form.header.channel_code ≡ c.code
  own_code = (coded_as sound.profile size sound.rate c.code sound.bits number is.form.header is.header).0

  -- two channels are kept under one of their codes
  pub pair_code : length block ≡ 2 → IsPairCode c.code
  pair_code two = subst IsPairCode own_code (pair_codes is.form.header.channel_code is.encoding.valid.channel_code (is.encoding.channels ∙ two))

  -- others are kept as they are
  apart_low : (length block ≡ 2 → ⊥) → length block ≤ 8 → c.code ≤ 7
  apart_low other many =
      let one = code_once (nat_lt is.form.header.channel_code 8) is.form.header.channel_code (length block) is.encoding.channels other in
      omega (arith, one, many, own_code)

  apart_keeps : (length block ≡ 2 → ⊥) → length block ≤ 8 → kept_as c.code block ≡ block
  apart_keeps other many = kept_same c.code block (apart_low other many)

  pub apart_made : (length block ≡ 2 → ⊥) → length block ≤ 8 → AreMadeByPlane lists c.subframes.items block
  apart_made other many = subst (λ ls. AreMadeByPlane ls c.subframes.items block) (lists_same c.code lists (apart_low other many)) (subst (AreMadeByPlane (lists_kept c.code lists) c.subframes.items) (apart_keeps other many) is.made)

  pub apart_parts : (length block ≡ 2 → ⊥) → length block ≤ 8 → flat_map (subframe_spelling sound.bits) (forms_by_plane lists c.subframes.items block) ≡ subframes_spelling sound.bits c.code 0 forms
  apart_parts other many =
      ap (λ ls. flat_map (subframe_spelling sound.bits) (forms_by_plane ls c.subframes.items block)) (sym (lists_same c.code lists (apart_low other many)))
      ∙ ap (λ b. flat_map (subframe_spelling sound.bits) (forms_by_plane (lists_kept c.code lists) c.subframes.items b)) (sym (apart_keeps other many)) ∙ sym (texts_are sound.bits c.code size (apart_low other many) 0 forms)

  module _ (h : Header) (there : chosen_header sound.profile size sound.rate c.code sound.bits number ≡ Some h) where
    header_is : is.form.header ≡ h
    header_is = inner is.form.header h (sym is.header ∙ there)

    code_is : c.code ≡ h.channel_code
    code_is = sym own_code ∙ ap (λ (x : Header). x.channel_code) header_is

    abbrev made_form : Header → List Form → FrameForm
    made_form k fs = record { header = k; subframes = fs }

    form_is : made_form h forms ≡ is.form
    form_is = ap (λ k. made_form k forms) (sym header_is) ∙ ap (made_form is.form.header) (sym is.subframes)

    -- the frame was written where its parts were, one after another
    pub frame_written : {X : Type 0} (old new : Written) (result : Result X Why) → old.mark.unread ≡ 0 → Writes (frame_parts h (subframes_spelling sound.bits c.code 0 forms) old.mark) (restarted old) new result
        → WritesFrameByPlane lists sound size number block old new result
    frame_written old new result whole writes = (
      is.form,
      is.encoding,
      (is.least, is.short),
      subst (λ t. Writes t (restarted old) new result) (text_is sound.bits h _ forms old.mark whole (ap (λ k. subframes_spelling sound.bits k 0 forms) code_is) ∙ ap (frame_spelling sound.bits) form_is) writes,
    )
