-- Frames that are encoded one after another.
use Rattle.std.proofs.Common.{◌≡◌, ℕ, zero, suc, ◌+◌, ◌-◌, ◌*◌, ◌^◌, ◌<◌, ◌≤◌, min, max, Bool, true, false, cond, nat_eq, nat_lt, List, [], ◌∷◌, ◌++◌, length, length-append, get_or, refl, sym, ap, subst, ◌∙◌, arith, ◌⊎◌, inl, inr}
use Rattle.std.proofs.lemmas.Bool.{cases_lt}
use Rattle.std.proofs.lemmas.Bool.Decides.{nat_tests}
use Rattle.std.proofs.Math.ListN.{get_or-append}
use Rattle.std.proofs.Math.Seq.{get_or-append_seam}
use Rattle.std.proofs.Math.Nat.{lt_of_mul-lt-mul_left}
use Rattle.flac_meta.specs.declared.seek_table.SeekPoint.{SeekPoint}
use Rattle.flac_frame.specs.Audio.{Sound, samples_each}
use Rattle.flac_frame.specs.Chosen.{IsChoiceByPlane}
use Rattle.flac_frame.specs.Encoding.{IsEncoding, IsLeastByPlane, block_of}
use Rattle.flac_frame.specs.Spelling.{frame_spelling}
use Rattle.flac_frame.specs.declared.frame_choice.FrameChoice.{FrameChoice}
use Rattle.flac_native.specs.Given.{Cut, tried, IsRange, blocks_in, size_of, frame_of}
use Rattle.flac_native.specs.Writing.{SpellsFrame, SpellsLeastByPlane, AreSizes, AreCounted, IsChoiceOf, AreChoices}
use Rattle.flac_native.specs.inner.Writing.{IsKept}
use Rattle.flac_native.specs.Seeking.{point_at, points_of}
use Rattle.flac_native.proofs.Encoded.{least_part, all_parts}
use Rattle.flac_native.proofs.Planned.{Planned, Fit}
use Rattle.flac_native.proofs.Tables.{bytes_of, bytes_more, points_more}

-- ---- sizes

abbrev pub nth : List (List Bool) → ℕ → List Bool
nth frames i = get_or frames i []

pub no_sizes : AreSizes [] 0 0
no_sizes = record { none = λ e. (refl, refl); least_is = λ h. absurd (omega arith); greatest_is = λ h. absurd (omega arith); within = λ i h. absurd (omega arith) }

abbrev pub snoc : List (List Bool) → List Bool → List (List Bool)
snoc frames t = frames ++ t ∷ []

pub length-snoc : (frames : List (List Bool)) (t : List Bool) → length (snoc frames t) ≡ length frames + 1
length-snoc frames t = length-append frames (t ∷ [])

pub old_at : (frames : List (List Bool)) (t : List Bool) (i : ℕ) → i < length frames → nth (snoc frames t) i ≡ nth frames i
old_at frames t i h = get_or-append frames (t ∷ []) [] i h

pub new_at : (frames : List (List Bool)) (t : List Bool) → nth (snoc frames t) (length frames) ≡ t
new_at frames t = get_or-append_seam frames t [] []

-- what holds of each of the frames so far and of one more
pub each_more : (P : ℕ → List Bool → Type 0) (frames : List (List Bool)) (t : List Bool) → ((i : ℕ) → i < length frames → P i (nth frames i)) → P (length frames) t → (i : ℕ) → i < length (snoc frames t) → P i (nth (snoc frames t) i)
each_more P frames t so_far here i h = elim (cases_lt i (length frames)) [
  | inl b ↦ subst (P i) (sym (old_at frames t i b)) (so_far i b)
  | inr b ↦
      let e : length frames ≡ i = omega (arith, b, h, length-snoc frames t) in
      subst (λ k. P k (nth (snoc frames t) k)) e (subst (P (length frames)) (sym (new_at frames t)) here)
]

-- the least and the greatest with one more
first_sizes : (t : List Bool) (bytes : ℕ) → length t ≡ 8 * bytes → AreSizes (t ∷ []) bytes bytes
first_sizes t bytes e = record {
  none = λ h. absurd (omega (arith, h));
  least_is = λ h. (0, omega arith, e);
  greatest_is = λ h. (0, omega arith, e);
  within = go;
}
  where
    go : (i : ℕ) → i < length (t ∷ []) → (8 * bytes ≤ length (nth (t ∷ []) i)) × (length (nth (t ∷ []) i) ≤ 8 * bytes)
    go zero h = (omega (arith, e), omega (arith, e))
    go (suc i) h = absurd (omega (arith, h))

more_sizes : (frames : List (List Bool)) (t : List Bool) (least greatest bytes : ℕ) → 0 < length frames → length t ≡ 8 * bytes → AreSizes frames least greatest → AreSizes (snoc frames t) (min least bytes) (max greatest bytes)
more_sizes frames t least greatest bytes some e s = record {
  none = λ h. absurd (omega (arith, h, length-snoc frames t));
  least_is = λ h. lower (cases_lt least bytes);
  greatest_is = λ h. upper (cases_lt bytes greatest);
  within = each_more (λ i k. (8 * min least bytes ≤ length k) × (length k ≤ 8 * max greatest bytes)) frames t
      (λ i h. let w = s.within i h in (omega (arith, w.0), omega (arith, w.1))) (omega (arith, e), omega (arith, e));
}
  where
    here : (n : ℕ) → n ≡ bytes → (i : ℕ) × (i < length (snoc frames t)) × (length (nth (snoc frames t) i) ≡ 8 * n)
    here n is = (length frames, omega (arith, length-snoc frames t), ap (λ (k : List Bool). length k) (new_at frames t) ∙ e ∙ ap (λ k. 8 * k) (sym is))

    there : (n k : ℕ) → n ≡ k → (i : ℕ) × (i < length frames) × (length (nth frames i) ≡ 8 * k) → (i : ℕ) × (i < length (snoc frames t)) × (length (nth (snoc frames t) i) ≡ 8 * n)
    there n k is (i, lt, has) = (i, omega (arith, lt, length-snoc frames t), ap (λ (k : List Bool). length k) (old_at frames t i lt) ∙ has ∙ ap (λ k. 8 * k) (sym is))

    lower : (least < bytes) ⊎ (bytes ≤ least) → (i : ℕ) × (i < length (snoc frames t)) × (length (nth (snoc frames t) i) ≡ 8 * min least bytes)
    lower (inl h) = there (min least bytes) least (omega (arith, h)) (s.least_is some)
    lower (inr h) = here (min least bytes) (omega (arith, h))

    upper : (bytes < greatest) ⊎ (greatest ≤ bytes) → (i : ℕ) × (i < length (snoc frames t)) × (length (nth (snoc frames t) i) ≡ 8 * max greatest bytes)
    upper (inl h) = there (max greatest bytes) greatest (omega (arith, h)) (s.greatest_is some)
    upper (inr h) = here (max greatest bytes) (omega (arith, h))

-- the least with one more: that itself where it is the first
abbrev pub least_with : ℕ → ℕ → ℕ → ℕ
least_with number least bytes = cond (nat_eq number 0) bytes (min least bytes)

pub sizes_with : (frames : List (List Bool)) (t : List Bool) (number least greatest bytes : ℕ) → length frames ≡ number → length t ≡ 8 * bytes → AreSizes frames least greatest → AreSizes (snoc frames t) (least_with number least bytes) (max greatest bytes)
sizes_with [] t zero least greatest bytes many e s = subst (λ g. AreSizes (t ∷ []) bytes g) (let h = (s.none refl).1 in omega (arith, h)) (first_sizes t bytes e)
sizes_with [] t (suc n) least greatest bytes many e s = absurd (omega (arith, many))
sizes_with (x ∷ xs) t zero least greatest bytes many e s = absurd (omega (arith, many))
sizes_with (x ∷ xs) t (suc n) least greatest bytes many e s =
    let later : nat_eq (suc n) 0 ≡ false = grind (arith, nat_tests) in
    subst (λ b. AreSizes (snoc (x ∷ xs) t) (cond b bytes (min least bytes)) (max greatest bytes)) (sym later) (more_sizes (x ∷ xs) t least greatest bytes (omega arith) e s)

-- ---- frames so far

-- so many frames are known, of which the least and the greatest have so many bytes, all of them so many, and these are
-- their points
pub record Gathered (p : Cut) (a : Sound) (number offset least greatest : ℕ) (points : List SeekPoint) : Type 0 where
  pub frames : List (List Bool)
  pub many : length frames ≡ number
  pub each : (i : ℕ) → i < length frames → SpellsFrame a (frame_of p.block_size a i) (nth frames i)
  pub each_least : (i : ℕ) → i < length frames → SpellsLeastByPlane (tried p i) a (frame_of p.block_size a i) (nth frames i)
  pub sizes : AreSizes frames least greatest
  pub count : offset ≤ 16777215 * number
  pub placed : offset ≡ bytes_of frames
  pub pointed : points ≡ points_of p frames

pub gathered_none : (p : Cut) (a : Sound) → Gathered p a 0 0 0 0 []
gathered_none p a = record { frames = []; many = refl; each = λ i h. absurd (omega arith); each_least = λ i h. absurd (omega arith); sizes = no_sizes; count = omega arith; placed = refl; pointed = refl }

-- what was chosen of a block makes the frame of its number
pub choice_of : (p : Cut) (a : Sound) (number start n : ℕ) (c : FrameChoice) → start ≡ p.block_size * number → n ≡ size_of p.block_size (samples_each a.channels) number → IsChoiceByPlane (tried p number) a n number (block_of start n a.channels) c
    → IsChoiceByPlane (tried p number) a (size_of p.block_size (samples_each a.channels) number) number (block_of (p.block_size * number) (size_of p.block_size (samples_each a.channels) number) a.channels) c
choice_of p a number start n c start_is n_is is = subst (λ k. IsChoiceByPlane (tried p number) a k number (block_of (p.block_size * number) k a.channels) c) n_is (subst (λ k. IsChoiceByPlane (tried p number) a n number (block_of k n a.channels) c) start_is is)

pub choice_back : (p : Cut) (a : Sound) (number start n : ℕ) (c : FrameChoice) → start ≡ p.block_size * number → n ≡ size_of p.block_size (samples_each a.channels) number
    → IsChoiceByPlane (tried p number) a (size_of p.block_size (samples_each a.channels) number) number (block_of (p.block_size * number) (size_of p.block_size (samples_each a.channels) number) a.channels) c → IsChoiceByPlane (tried p number) a n number (block_of start n a.channels) c
choice_back p a number start n c start_is n_is is =
    subst (λ k. IsChoiceByPlane (tried p number) a n number (block_of k n a.channels) c) (sym start_is) (subst (λ k. IsChoiceByPlane (tried p number) a k number (block_of (p.block_size * number) k a.channels) c) (sym n_is) is)

-- what is kept of a choice is a choice of the same frame
pub kept_choice : (p : Cut) (a : Sound) (number : ℕ) (c kept : FrameChoice) → IsKept c kept → IsChoiceOf p a number c → IsChoiceOf p a number kept
kept_choice p a number c kept k is = record {
  chosen = k.same (tried p number) a (frame_of p.block_size a number).size number (frame_of p.block_size a number).channels is.chosen;
  places = omega (arith, k.many, is.places);
}

pub itself : (c : FrameChoice) → IsKept c c
itself c = record { same = λ lists a size number block is. is; many = refl }

pub gathered_more : (p : Cut) (a : Sound) (number offset least greatest bytes start n : ℕ) (c : FrameChoice) (points more : List SeekPoint) → Gathered p a number offset least greatest points
    → more ≡ points ++ point_at p number offset → start ≡ p.block_size * number → n ≡ size_of p.block_size (samples_each a.channels) number
    → (is : IsChoiceByPlane (tried p number) a n number (block_of start n a.channels) c) → length (frame_spelling a.bits is.form) ≡ 8 * bytes
    → Gathered p a (number + 1) (offset + bytes) (least_with number least bytes) (max greatest bytes) more × (bytes ≤ 16777215)
gathered_more p a number offset least greatest bytes start n c points more g noted start_is n_is is long =
    let size = size_of p.block_size (samples_each a.channels) number in
    let t = frame_spelling a.bits is.form in
    let encoding : IsEncoding a size number (block_of (p.block_size * number) size a.channels) is.form =
    subst (λ k. IsEncoding a k number (block_of (p.block_size * number) k a.channels) is.form) n_is (subst (λ k. IsEncoding a n number (block_of k n a.channels) is.form) start_is is.encoding) in
    let least_frame : IsLeastByPlane (tried p number) a size number (block_of (p.block_size * number) size a.channels) is.form =
    subst (λ k. IsLeastByPlane (tried p number) a k number (block_of (p.block_size * number) k a.channels) is.form) n_is (subst (λ k. IsLeastByPlane (tried p number) a n number (block_of k n a.channels) is.form) start_is is.least) in
    let few : bytes ≤ 16777215 = omega (arith, long, is.short) in
    let here : SpellsFrame a (frame_of p.block_size a number) t = record { form = is.form; encoding = encoding; spelling = refl; short = is.short } in
    let here_least : SpellsLeastByPlane (tried p number) a (frame_of p.block_size a number) t = record { form = is.form; least = least_frame; spelling = refl } in (
      record {
        frames = snoc g.frames t;
        many = omega (arith, length-snoc g.frames t, g.many);
        each = each_more (λ i k. SpellsFrame a (frame_of p.block_size a i) k) g.frames t g.each (subst (λ n. SpellsFrame a (frame_of p.block_size a n) t) (sym g.many) here);
        each_least = each_more (λ i k. SpellsLeastByPlane (tried p i) a (frame_of p.block_size a i) k) g.frames t g.each_least (subst (λ n. SpellsLeastByPlane (tried p n) a (frame_of p.block_size a n) t) (sym g.many) here_least);
        sizes = sizes_with g.frames t number least greatest bytes g.many long g.sizes;
        count = omega (arith, g.count, few);
        placed = omega (arith, long, g.placed, bytes_more g.frames t);
        pointed = noted ∙ ap (λ l. l ++ point_at p number offset) g.pointed ∙ ap (λ i. points_of p g.frames ++ point_at p i offset) (let e : number ≡ 0 + length g.frames = omega (arith, g.many) in e)
            ∙ ap (λ o. points_of p g.frames ++ point_at p (0 + length g.frames) o) (let e : offset ≡ 0 + bytes_of g.frames = omega (arith, g.placed) in e) ∙ sym (points_more p 0 0 g.frames t);
      },
      few,
    )

-- ---- what is kept of them

pub no_choices : (p : Cut) (a : Sound) → AreChoices p a []
no_choices p a i c lt is = absurd (omega arith)

one_choice : (p : Cut) (a : Sound) (cs : List FrameChoice) (c : FrameChoice) → AreChoices p a cs → IsChoiceOf p a (length cs) c → AreChoices p a (cs ++ c ∷ [])
one_choice p a cs c are one i d lt is = elim (cases_lt i (length cs)) [
  | inl b ↦ are i d b (is ∙ get_or-append cs (c ∷ []) d i b)
  | inr b ↦
      let e : length cs ≡ i = omega (arith, b, lt, length-append cs (c ∷ [])) in
      let same : c ≡ d = sym (is ∙ ap (λ k. get_or (cs ++ c ∷ []) k d) (sym e) ∙ get_or-append_seam cs c [] d) in
      subst (λ k. IsChoiceOf p a k d) e (subst (IsChoiceOf p a (length cs)) same one)
]

pub choices_more : (p : Cut) (a : Sound) (cs new : List FrameChoice) (c : FrameChoice) (number most : ℕ) → AreChoices p a cs → length cs ≡ min number most → IsChoiceOf p a number c
    → new ≡ cond (nat_lt (length cs) most) (cs ++ c ∷ []) cs → AreChoices p a new × (length new ≡ min (number + 1) most)
choices_more p a cs new c number most are many one is = go (nat_lt (length cs) most) refl is
  where
    go : (b : Bool) → nat_lt (length cs) most ≡ b → new ≡ cond b (cs ++ c ∷ []) cs → AreChoices p a new × (length new ≡ min (number + 1) most)
    go true test e =
        let below : length cs < most = grind (arith, nat_tests) in
        let at : number ≡ length cs = omega (arith, many, below) in
        subst (λ l. AreChoices p a l × (length l ≡ min (number + 1) most)) (sym e) (one_choice p a cs c are (subst (λ k. IsChoiceOf p a k c) at one), omega (arith, length-append cs (c ∷ []), many, below))
    go false test e =
        let over : most ≤ length cs = grind (arith, nat_tests) in
        subst (λ l. AreChoices p a l × (length l ≡ min (number + 1) most)) (sym e) (are, omega (arith, many, over))

-- ---- where the loop stands

pub still_some : (b total number : ℕ) → 16 ≤ b → b * number < total → number < blocks_in b total
still_some b total number some h = lt_of_mul-lt-mul_left b (omega (arith, h, all_parts b total some))

pub all_gathered : (b total number : ℕ) → 16 ≤ b → number ≤ blocks_in b total → total ≤ b * number → number ≡ blocks_in b total
all_gathered b total number some few h = elim (cases_lt number (blocks_in b total)) [
  | inl k ↦ absurd (omega (arith, least_part b total number some k, h))
  | inr k ↦ omega (arith, k, few)
]

-- where the samples of a frame are
pub range_is : (p : Cut) (a : Sound) (number start step : ℕ) → Planned p → Fit p a → number < blocks_in p.block_size (samples_each a.channels) → start ≡ p.block_size * number
    → step ≡ min p.block_size (samples_each a.channels - start) → IsRange p a number start (start + step)
range_is p a number start step q f some start_is step_is =
    let more : p.block_size * number < samples_each a.channels = least_part p.block_size (samples_each a.channels) number q.least some in
    let blocks : blocks_in p.block_size (samples_each a.channels) ≤ 2 ^ 31 = subst (λ t. blocks_in p.block_size t ≤ 2 ^ 31) f.total q.blocks in
    record {
      start = start_is;
      size = omega (arith, start_is, step_is);
      some = omega (arith, start_is, step_is, more, q.least);
      within = omega (arith, start_is, step_is, more);
      room = omega (arith, start_is, step_is);
      few = omega (arith, some, blocks);
    }

-- all frames
pub all_counted : (p : Cut) (a : Sound) (number offset least greatest : ℕ) (points : List SeekPoint) → Gathered p a number offset least greatest points → number ≡ blocks_in p.block_size (samples_each a.channels) → AreCounted p a least greatest points
all_counted p a number offset least greatest points g all = record { frames = g.frames; are = record { many = g.many ∙ all; each = g.each }; are_least = g.each_least; sizes = g.sizes; pointed = g.pointed }
