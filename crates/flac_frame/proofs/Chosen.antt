-- The subframes of a block, chosen one after another, and then written.
use Rattle.std.proofs.Common.{◌≡◌, ◌∙◌, refl, sym, ap, subst, ℕ, zero, suc, ◌+◌, ◌≤◌, ◌<◌, arith, ℤ, Bool, List, [], ◌∷◌, ◌++◌, length, length-append, take, drop, get_or, set, Some, All, flat_map}
use Rattle.std.proofs.lemmas.List.{append-nil, take_more_set, length-take-le, get_or_default}
use Rattle.std.proofs.lemmas.Grind.{flat_map-append}
use Rattle.flac_subframe.specs.declared.format.linear.LinearPredictor.{LinearPredictor}
use Rattle.flac_subframe.specs.format.Handed.{AreWithin}
use Rattle.flac_bits.specs.Signed.{FitsBits}
use Rattle.flac_subframe.specs.declared.search.wide_choice.WideChoice.{WideChoice}
use Rattle.flac_subframe.specs.declared.format.limits.Limits.{Limits}
use Rattle.flac_subframe.specs.search.Choices.{IsMadeIn, form_in}
use Rattle.flac_subframe.specs.format.Spelling.{subframe_spelling, IsSubframe}
use Rattle.flac_subframe.specs.format.Subframe.{Form, samples_of}
use Rattle.flac_frame.specs.Chosen.{forms_by_plane, AreMadeByPlane}
use Rattle.flac_frame.specs.PlaneLists.{Lists, later}
use Rattle.flac_frame.specs.inner.Chosen.{AreChosen}
use Rattle.flac_frame.specs.Encoding.{block_of}
use Rattle.flac_frame.specs.inner.Encoding.{AreFormsByPlane, AreLeast, IsLeastFor}
use Rattle.flac_frame.specs.Frame.{side_bit}
use Rattle.flac_frame.specs.Spelling.{subframes_spelling}
use Rattle.flac_frame.specs.Stereo.{side_of, middle_of}
use Rattle.flac_frame.proofs.Encoded.{forms-more, least-more}
use Rattle.flac_frame.proofs.PlaneLists.{from_plane, later_from, first_from}
use Rattle.flac_frame.proofs.Pairs.{side_fits, middle_fits}

-- ---- one more

made_more : (lists : Lists) (cs : List WideChoice) (block : List (List ℤ)) (c : WideChoice) (s : List ℤ) → length cs ≡ length block → AreMadeByPlane lists cs block → IsMadeIn (lists (length block)) c s → AreMadeByPlane lists (cs ++ c ∷ []) (block ++ s ∷ [])
made_more lists [] [] c s e h k = (k, tt)
made_more lists [] (t ∷ ts) c s e h k = absurd (omega (arith, e))
made_more lists (d ∷ ds) [] c s e h k = absurd (omega (arith, e))
made_more lists (d ∷ ds) (t ∷ ts) c s e h k = (h.0, made_more (later lists) ds ts c s (omega (arith, e)) h.1 k)

forms_more : (lists : Lists) (cs : List WideChoice) (block : List (List ℤ)) (c : WideChoice) (s : List ℤ) → length cs ≡ length block → forms_by_plane lists (cs ++ c ∷ []) (block ++ s ∷ []) ≡ forms_by_plane lists cs block ++ form_in (lists (length block)) c s ∷ []
forms_more lists [] [] c s e = refl
forms_more lists [] (t ∷ ts) c s e = absurd (omega (arith, e))
forms_more lists (d ∷ ds) [] c s e = absurd (omega (arith, e))
forms_more lists (d ∷ ds) (t ∷ ts) c s e = ap (λ l. form_in (lists 0) d t ∷ l) (forms_more (later lists) ds ts c s (omega (arith, e)))

forms_long : (lists : Lists) (cs : List WideChoice) (block : List (List ℤ)) → length cs ≡ length block → length (forms_by_plane lists cs block) ≡ length block
forms_long lists [] [] e = refl
forms_long lists [] (t ∷ ts) e = absurd (omega (arith, e))
forms_long lists (d ∷ ds) [] e = refl
forms_long lists (d ∷ ds) (t ∷ ts) e = ap suc (forms_long (later lists) ds ts (omega (arith, e)))

-- what is chosen of the first so many
pub record FirstChosen (most : ℕ) (lists : Lists) (depth size : ℕ) (choices : List WideChoice) (i : ℕ) (block : List (List ℤ)) (bits : ℕ) : Type 0 where
  pub chosen : AreChosen most lists depth size (take i choices) block
  pub bits_are : bits ≡ length (flat_map (subframe_spelling depth) (forms_by_plane lists (take i choices) block))

pub none_chosen : (most : ℕ) (lists : Lists) (depth size : ℕ) (choices : List WideChoice) → FirstChosen most lists depth size choices 0 [] 0
none_chosen most lists depth size choices = record { chosen = record { made = tt; are = tt; least = tt }; bits_are = refl }

-- a choice for samples, with a list
pub record OneChosen (most : ℕ) (ps : List LinearPredictor) (depth : ℕ) (c : WideChoice) (s : List ℤ) (bits : ℕ) : Type 0 where
  pub made : IsMadeIn ps c s
  pub valid : (limits : Limits) → most ≤ limits.partition → AreWithin limits.linear ps → IsSubframe depth (length s) limits (form_in ps c s)
  pub samples : samples_of depth (length s) (form_in ps c s) ≡ Some s
  pub least : IsLeastFor most ps depth s (form_in ps c s)
  pub cost : bits ≡ length (subframe_spelling depth (form_in ps c s))

module _ (most : ℕ) (lists : Lists) (depth size : ℕ) where
  next_chosen : (choices : List WideChoice) (block : List (List ℤ)) (c : WideChoice) (s : List ℤ) (bits more : ℕ) → length block < length choices → FirstChosen most lists depth size choices (length block) block bits
      → OneChosen most (lists (length block)) depth c s more → length s ≡ size → FirstChosen most lists depth size (set choices (length block) c) (length block + 1) (block ++ s ∷ []) (bits + more)
  next_chosen choices block c s bits more lt first one long =
      let i : ℕ = length block in
      let ps : List LinearPredictor = lists i in
      let f : Form = form_in ps c s in
      let long_take : length (take i choices) ≡ length block = length-take-le i choices (omega (arith, lt)) in
      let is : take (i + 1) (set choices i c) ≡ take i choices ++ c ∷ [] = take_more_set choices i c lt in
      let before : List Form = forms_by_plane lists (take i choices) block in
      let forms : forms_by_plane lists (take i choices ++ c ∷ []) (block ++ s ∷ []) ≡ before ++ f ∷ [] = forms_more lists (take i choices) block c s long_take in
      let many : length before ≡ length block = forms_long lists (take i choices) block long_take in
      let text = subframe_spelling depth in
      let are : AreFormsByPlane most lists depth size (before ++ f ∷ []) (block ++ s ∷ []) =
      forms-more most depth size lists before block f s many first.chosen.are (λ limits few within. subst (λ n. IsSubframe depth n limits f) long (one.valid limits few within)) (subst (λ n. samples_of depth n f ≡ Some s) long one.samples) in
      let leasts : AreLeast most lists depth (before ++ f ∷ []) (block ++ s ∷ []) = least-more most depth size lists before block f s many first.chosen.least one.least in
      let sum : length (flat_map text (before ++ f ∷ [])) ≡ length (flat_map text before) + length (text f) =
      ap (λ (t : List Bool). length t) (flat_map-append text before (f ∷ []) ∙ ap (λ t. flat_map text before ++ t) (append-nil (text f))) ∙ length-append (flat_map text before) (text f) in
      record {
        chosen = subst (λ cs. AreChosen most lists depth size cs (block ++ s ∷ [])) (sym is) (record {
          made = made_more lists (take i choices) block c s long_take first.chosen.made one.made;
          are = subst (λ fs. AreFormsByPlane most lists depth size fs (block ++ s ∷ [])) (sym forms) are;
          least = subst (λ fs. AreLeast most lists depth fs (block ++ s ∷ [])) (sym forms) leasts;
        });
        bits_are = omega (arith, first.bits_are, one.cost, sum, ap (λ cs. length (flat_map text (forms_by_plane lists cs (block ++ s ∷ [])))) is, ap (λ fs. length (flat_map text fs)) forms);
      }

  pub one_chosen : (choices : List WideChoice) (i : ℕ) (block : List (List ℤ)) (c : WideChoice) (s : List ℤ) (bits more : ℕ) → length block ≡ i → i < length choices → FirstChosen most lists depth size choices i block bits
      → OneChosen most (lists i) depth c s more → length s ≡ size → FirstChosen most lists depth size (set choices i c) (i + 1) (block ++ s ∷ []) (bits + more)
  one_chosen choices i block c s bits more many lt first one long =
      subst (λ k. k < length choices → FirstChosen most lists depth size choices k block bits → OneChosen most (lists k) depth c s more → FirstChosen most lists depth size (set choices k c) (k + 1) (block ++ s ∷ []) (bits + more)) many
      (λ lt first one. next_chosen choices block c s bits more lt first one long) lt first one

-- ---- all

forms_first : (lists : Lists) (cs : List WideChoice) (block : List (List ℤ)) → forms_by_plane lists (take (length block) cs) block ≡ forms_by_plane lists cs block
forms_first lists cs [] = refl
forms_first lists [] (s ∷ ss) = refl
forms_first lists (c ∷ cs) (s ∷ ss) = ap (λ l. form_in (lists 0) c s ∷ l) (forms_first (later lists) cs ss)

made_first : (lists : Lists) (cs : List WideChoice) (block : List (List ℤ)) → AreMadeByPlane lists (take (length block) cs) block → AreMadeByPlane lists cs block
made_first lists cs [] h = tt
made_first lists [] (s ∷ ss) h = absurd h
made_first lists (c ∷ cs) (s ∷ ss) h = (h.0, made_first (later lists) cs ss h.1)

pub all_chosen : (most : ℕ) (lists : Lists) (depth size : ℕ) (choices : List WideChoice) (i : ℕ) (block : List (List ℤ)) (bits : ℕ) → length block ≡ i → FirstChosen most lists depth size choices i block bits
    → AreChosen most lists depth size choices block × (bits ≡ length (flat_map (subframe_spelling depth) (forms_by_plane lists choices block)))
all_chosen most lists depth size choices i block bits many first =
    let f = subst (λ n. FirstChosen most lists depth size choices n block bits) (sym many) first in
    let forms = forms_first lists choices block in (
      record {
        made = made_first lists choices block f.chosen.made;
        are = subst (λ fs. AreFormsByPlane most lists depth size fs block) forms f.chosen.are;
        least = subst (λ fs. AreLeast most lists depth fs block) forms f.chosen.least;
      },
      f.bits_are ∙ ap (λ fs. length (flat_map (subframe_spelling depth) fs)) forms,
    )

-- ---- one after another, as they are written

pub drop_is : {X : Type 0} (xs : List X) (i : ℕ) (x : X) → i < length xs → x ≡ get_or xs i x → drop i xs ≡ x ∷ drop (i + 1) xs
drop_is [] i x lt is = absurd (omega (arith, lt))
drop_is (y ∷ ys) zero x lt is = ap (λ k. k ∷ ys) (sym is)
drop_is (y ∷ ys) (suc i) x lt is = let e : suc i + 1 ≡ suc (i + 1) = omega arith in rw e (drop_is ys i x (omega (arith, lt)) is)

pub pair_text : (depth code : ℕ) (f g : Form) → subframes_spelling depth code 0 (f ∷ g ∷ []) ≡ subframe_spelling (depth + side_bit code 0) f ++ subframe_spelling (depth + side_bit code 1) g
unfolding subframes_spelling
pair_text depth code f g = ap (λ t. subframe_spelling (depth + side_bit code 0) f ++ t) (append-nil (subframe_spelling (depth + side_bit code 1) g))

drop_none : {X : Type 0} (xs : List X) (n : ℕ) → length xs ≤ n → drop n xs ≡ []
drop_none [] zero h = refl
drop_none [] (suc n) h = refl
drop_none (x ∷ xs) zero h = absurd (omega (arith, h))
drop_none (x ∷ xs) (suc n) h = drop_none xs n (omega (arith, h))

-- the subframes of the channels from one on
module _ (lists : Lists) (depth start size : ℕ) (cs : List WideChoice) (xs : List (List ℤ)) where
  abbrev pub text_after : ℕ → List Bool
  text_after i = flat_map (subframe_spelling depth) (forms_by_plane (from_plane i lists) (drop i cs) (block_of start size (drop i xs)))

  abbrev pub MadeAfter : ℕ → Type 0
  MadeAfter i = AreMadeByPlane (from_plane i lists) (drop i cs) (block_of start size (drop i xs))

  module _ (i : ℕ) (c : WideChoice) (few : i < length cs) (lt : i < length xs) (is_c : c ≡ get_or cs i c) where
    first_channel : drop i xs ≡ get_or xs i [] ∷ drop (i + 1) xs
    first_channel = drop_is xs i (get_or xs i []) lt (get_or_default xs i [] (get_or xs i []) lt)

    pub made_next : MadeAfter i → IsMadeIn (lists i) c (take size (drop start (get_or xs i []))) × MadeAfter (i + 1)
    made_next h =
        let here = subst (λ ds. AreMadeByPlane (from_plane i lists) ds (block_of start size (get_or xs i [] ∷ drop (i + 1) xs))) (drop_is cs i c few is_c) (subst (λ ys. AreMadeByPlane (from_plane i lists) (drop i cs) (block_of start size ys)) first_channel h) in
        (subst (λ ps. IsMadeIn ps c (take size (drop start (get_or xs i [])))) (first_from i lists) here.0, subst (λ ls. AreMadeByPlane ls (drop (i + 1) cs) (block_of start size (drop (i + 1) xs))) (later_from i lists) here.1)

    pub text_next : text_after i ≡ subframe_spelling depth (form_in (lists i) c (take size (drop start (get_or xs i [])))) ++ text_after (i + 1)
    text_next =
        let s : List ℤ = take size (drop start (get_or xs i [])) in
        let text = subframe_spelling depth in
        ap (λ ds. flat_map text (forms_by_plane (from_plane i lists) ds (block_of start size (drop i xs)))) (drop_is cs i c few is_c)
        ∙ ap (λ ys. flat_map text (forms_by_plane (from_plane i lists) (c ∷ drop (i + 1) cs) (block_of start size ys))) first_channel
        ∙ ap (λ ps. text (form_in ps c s) ++ flat_map text (forms_by_plane (later (from_plane i lists)) (drop (i + 1) cs) (block_of start size (drop (i + 1) xs)))) (first_from i lists)
        ∙ ap (λ ls. text (form_in (lists i) c s) ++ flat_map text (forms_by_plane ls (drop (i + 1) cs) (block_of start size (drop (i + 1) xs)))) (later_from i lists)

  pub text_last : (i : ℕ) → length xs ≤ i → text_after i ≡ []
  text_last i h = ap (λ ys. flat_map (subframe_spelling depth) (forms_by_plane (from_plane i lists) (drop i cs) (block_of start size ys))) (drop_none xs i h)

-- the texts of all, whose choices are the same, at a depth that is the same
pub texts_same : (lists : Lists) (depth own start size : ℕ) (cs items : List WideChoice) (xs : List (List ℤ)) → depth ≡ own → cs ≡ items
    → flat_map (subframe_spelling depth) (forms_by_plane lists cs (block_of start size xs)) ≡ flat_map (subframe_spelling own) (forms_by_plane lists items (block_of start size xs))
texts_same lists depth own start size cs items xs d c =
    ap (λ k. flat_map (subframe_spelling k) (forms_by_plane lists cs (block_of start size xs))) d ∙ ap (λ k. flat_map (subframe_spelling own) (forms_by_plane lists k (block_of start size xs))) c

-- ---- two subframes

pub two_forms : (lists : Lists) (cs : List WideChoice) (x y : WideChoice) (first second : List ℤ) → 2 ≤ length cs → x ≡ get_or cs 0 x → y ≡ get_or cs 1 y → forms_by_plane lists cs (first ∷ second ∷ []) ≡ form_in (lists 0) x first ∷ form_in (lists 1) y second ∷ []
two_forms lists [] x y first second h p q = absurd (omega (arith, h))
two_forms lists (a ∷ []) x y first second h p q = absurd (omega (arith, h))
two_forms lists (a ∷ b ∷ cs) x y first second h p q = ap (λ z. form_in (lists 0) z first ∷ form_in (lists 1) b second ∷ []) (sym p) ∙ ap (λ z. form_in (lists 0) x first ∷ form_in (lists 1) z second ∷ []) (sym q)

pub first_made : (lists : Lists) (cs : List WideChoice) (x : WideChoice) (first second : List ℤ) → x ≡ get_or cs 0 x → AreMadeByPlane lists cs (first ∷ second ∷ []) → IsMadeIn (lists 0) x first
first_made lists [] x first second p m = absurd m
first_made lists (a ∷ cs) x first second p m = subst (λ z. IsMadeIn (lists 0) z first) (sym p) m.0

pub second_made : (lists : Lists) (cs : List WideChoice) (y : WideChoice) (first second : List ℤ) → y ≡ get_or cs 1 y → AreMadeByPlane lists cs (first ∷ second ∷ []) → IsMadeIn (lists 1) y second
second_made lists [] y first second q m = absurd m
second_made lists (a ∷ []) y first second q m = absurd m.1
second_made lists (a ∷ b ∷ cs) y first second q m = subst (λ z. IsMadeIn (lists 1) z second) (sym q) m.1.0

two_texts : (lists : Lists) (depth code d e : ℕ) (cs : List WideChoice) (x y : WideChoice) (first second : List ℤ) → 2 ≤ length cs → x ≡ get_or cs 0 x → y ≡ get_or cs 1 y → d ≡ side_bit code 0 → e ≡ side_bit code 1
    → subframe_spelling (depth + d) (form_in (lists 0) x first) ++ subframe_spelling (depth + e) (form_in (lists 1) y second) ≡ subframes_spelling depth code 0 (forms_by_plane lists cs (first ∷ second ∷ []))
two_texts lists depth code d e cs x y first second h p q is_d is_e =
    ap (λ n. subframe_spelling (depth + n) (form_in (lists 0) x first) ++ subframe_spelling (depth + e) (form_in (lists 1) y second)) is_d
    ∙ ap (λ n. subframe_spelling (depth + side_bit code 0) (form_in (lists 0) x first) ++ subframe_spelling (depth + n) (form_in (lists 1) y second)) is_e
    ∙ sym (pair_text depth code (form_in (lists 0) x first) (form_in (lists 1) y second)) ∙ ap (subframes_spelling depth code 0) (sym (two_forms lists cs x y first second h p q))

-- the texts of two subframes, whose choices are the first of a list that is the same, at depths that are the same
pub pair_texts : (lists : Lists) (own depth code d e : ℕ) (items cs : List WideChoice) (x y : WideChoice) (first second : List ℤ) → depth ≡ own → cs ≡ items → 2 ≤ length items → x ≡ get_or cs 0 x → y ≡ get_or cs 1 y → d ≡ side_bit code 0 → e ≡ side_bit code 1
    → subframe_spelling (depth + d) (form_in (lists 0) x first) ++ subframe_spelling (depth + e) (form_in (lists 1) y second) ≡ subframes_spelling own code 0 (forms_by_plane lists items (first ∷ second ∷ []))
pair_texts lists own depth code d e items cs x y first second is same two p q is_d is_e =
    let many : 2 ≤ length cs = omega (arith, two, ap (λ (l : List WideChoice). length l) same) in
    two_texts lists depth code d e cs x y first second many p q is_d is_e ∙ ap (λ k. subframes_spelling k code 0 (forms_by_plane lists cs (first ∷ second ∷ []))) is ∙ ap (λ l. subframes_spelling own code 0 (forms_by_plane lists l (first ∷ second ∷ []))) same

-- ---- what a code keeps fits

pub plain_at : (code i depth : ℕ) (s : List ℤ) → side_bit code i ≡ 0 → All (FitsBits depth) s → All (FitsBits (depth + side_bit code i)) s
plain_at code i depth s e h = let same : depth ≡ depth + side_bit code i = omega (arith, e) in subst (λ d. All (FitsBits d) s) same h

pub side_at : (code i depth : ℕ) (z left right : List ℤ) → side_bit code i ≡ 1 → z ≡ side_of left right → length right ≡ length left → 1 ≤ depth → All (FitsBits depth) left → All (FitsBits depth) right → All (FitsBits (depth + side_bit code i)) z
side_at code i depth z left right e is long deep l r =
    let same : depth + 1 ≡ depth + side_bit code i = omega (arith, e) in
    subst (λ d. All (FitsBits d) z) same (subst (All (FitsBits (depth + 1))) (sym is) (side_fits left right long depth deep l r))

pub middle_at : (code i depth : ℕ) (z left right : List ℤ) → side_bit code i ≡ 0 → z ≡ middle_of left right → length right ≡ length left → All (FitsBits depth) left → All (FitsBits depth) right → All (FitsBits (depth + side_bit code i)) z
middle_at code i depth z left right e is long l r = plain_at code i depth z e (subst (All (FitsBits depth)) (sym is) (middle_fits left right long depth l r))
