-- A choice that is copied.
use Rattle.std.proofs.Common.{◌≡◌, ◌∙◌, refl, sym, ap, subst, ℕ, ◌+◌, ◌<◌, arith, ℤ, List, [], ◌∷◌, ◌++◌, length, take, get_or, Some}
use Rattle.flac_header.specs.Choice.{chosen_header}
use Rattle.std.specs.Bool.{⊤}
use Rattle.std.proofs.lemmas.List.{take_more, take_all}
use Rattle.flac_subframe.specs.declared.search.wide_choice.WideChoice.{WideChoice}
use Rattle.flac_subframe.specs.declared.format.linear.LinearPredictor.{LinearPredictor}
use Rattle.flac_subframe.specs.search.Choices.{IsMadeIn, form_in}
use Rattle.flac_frame.specs.Audio.{Sound}
use Rattle.flac_frame.specs.Chosen.{forms_by_plane, AreMadeByPlane, IsChoiceByPlane}
use Rattle.flac_frame.specs.PlaneLists.{Lists, later, lists_kept}
use Rattle.flac_frame.specs.Stereo.{kept_as}
use Rattle.flac_frame.specs.declared.frame_choice.FrameChoice.{FrameChoice}

-- a copy stands for the same form of any samples
pub record IsCopy (c d : WideChoice) : Type 0 where
  pub form : (ps : List LinearPredictor) (s : List ℤ) → form_in ps c s ≡ form_in ps d s
  pub made : (ps : List LinearPredictor) (s : List ℤ) → IsMadeIn ps d s → IsMadeIn ps c s

abbrev pub AreCopies : List WideChoice → List WideChoice → Type 0
AreCopies [] [] = ⊤
AreCopies [] (d ∷ ds) = ⊥
AreCopies (c ∷ cs) [] = ⊥
AreCopies (c ∷ cs) (d ∷ ds) = IsCopy c d × AreCopies cs ds

copies_more : (cs ds : List WideChoice) (c d : WideChoice) → AreCopies cs ds → IsCopy c d → AreCopies (cs ++ c ∷ []) (ds ++ d ∷ [])
copies_more [] [] c d h k = (k, tt)
copies_more [] (e ∷ es) c d h k = absurd h
copies_more (b ∷ bs) [] c d h k = absurd h
copies_more (b ∷ bs) (e ∷ es) c d h k = (h.0, copies_more bs es c d h.1 k)

pub one_copy : (cs ds : List WideChoice) (i : ℕ) (c d : WideChoice) → i < length ds → d ≡ get_or ds i d → AreCopies cs (take i ds) → IsCopy c d → AreCopies (cs ++ c ∷ []) (take (i + 1) ds)
one_copy cs ds i c d lt is h k = subst (λ l. AreCopies (cs ++ c ∷ []) l) (ap (λ e. take i ds ++ e ∷ []) is ∙ sym (take_more ds i d lt)) (copies_more cs (take i ds) c d h k)

copies_long : (cs ds : List WideChoice) → AreCopies cs ds → length cs ≡ length ds
copies_long [] [] h = refl
copies_long [] (d ∷ ds) h = absurd h
copies_long (c ∷ cs) [] h = absurd h
copies_long (c ∷ cs) (d ∷ ds) h = omega (arith, copies_long cs ds h.1)

copied_forms : (lists : Lists) (cs ds : List WideChoice) (block : List (List ℤ)) → AreCopies cs ds → forms_by_plane lists ds block ≡ forms_by_plane lists cs block
copied_forms lists cs ds [] h = refl
copied_forms lists [] [] (s ∷ ss) h = refl
copied_forms lists [] (d ∷ ds) (s ∷ ss) h = absurd h
copied_forms lists (c ∷ cs) [] (s ∷ ss) h = absurd h
copied_forms lists (c ∷ cs) (d ∷ ds) (s ∷ ss) h = ap (λ f. f ∷ forms_by_plane (later lists) ds ss) (sym (h.0.form (lists 0) s)) ∙ ap (λ fs. form_in (lists 0) c s ∷ fs) (copied_forms (later lists) cs ds ss h.1)

copied_made : (lists : Lists) (cs ds : List WideChoice) (block : List (List ℤ)) → AreCopies cs ds → AreMadeByPlane lists ds block → AreMadeByPlane lists cs block
copied_made lists cs ds [] h m = tt
copied_made lists [] [] (s ∷ ss) h m = absurd m
copied_made lists [] (d ∷ ds) (s ∷ ss) h m = absurd h
copied_made lists (c ∷ cs) [] (s ∷ ss) h m = absurd h
copied_made lists (c ∷ cs) (d ∷ ds) (s ∷ ss) h m = (h.0.made (lists 0) s m.0, copied_made (later lists) cs ds ss h.1 m.1)

pub copied : (lists : Lists) (sound : Sound) (size number : ℕ) (block : List (List ℤ)) (old new : FrameChoice) → old.code ≡ new.code → old.bits ≡ new.bits → AreCopies new.subframes.items old.subframes.items → IsChoiceByPlane lists sound size number block old
    → IsChoiceByPlane lists sound size number block new
copied lists sound size number block old new code bits copies is =
    let own : Lists = lists_kept old.code lists in
    record {
      form = is.form;
      header = subst (λ k. chosen_header sound.profile size sound.rate k sound.bits number ≡ Some is.form.header) code is.header;
      subframes = is.subframes ∙ copied_forms own new.subframes.items old.subframes.items (kept_as old.code block) copies ∙ ap (λ k. forms_by_plane (lists_kept k lists) new.subframes.items (kept_as k block)) code;
      made = subst (λ k. AreMadeByPlane (lists_kept k lists) new.subframes.items (kept_as k block)) code (copied_made own new.subframes.items old.subframes.items (kept_as old.code block) copies is.made);
      encoding = is.encoding;
      least = is.least;
      short = is.short;
      cost = sym bits ∙ is.cost;
    }

pub all_copies : (cs ds : List WideChoice) (i : ℕ) → length ds ≡ i → AreCopies cs (take i ds) → AreCopies cs ds × (length cs ≡ length ds)
all_copies cs ds i e h = let all = subst (λ l. AreCopies cs l) (take_all i ds (omega (arith, e))) h in (all, copies_long cs ds all)
