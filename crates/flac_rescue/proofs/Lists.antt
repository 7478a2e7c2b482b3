-- What is made of a list one item after another.
use Rattle.std.proofs.Common.{◌≡◌, ℕ, zero, suc, ◌+◌, ◌<◌, ◌≤◌, Bool, true, false, List, [], ◌∷◌, ◌++◌, length, drop, get_or, refl, sym, ap, subst, ◌∙◌, add-one, drop-cons, append_assoc, arith}
use Rattle.std.specs.Prelude.{cond, nat_eq, flat_map, min, ◌^◌, ◌-◌}
use Rattle.std.proofs.lemmas.List.{append-nil}
use Rattle.flac_salvage.specs.Chain.{Rise, end_of}
use Rattle.flac_salvage.specs.declared.find.WholeFrame.{WholeFrame}
use Rattle.flac_rescue.specs.Gaps.{gaps, AreWithin, last_of, others}
use Rattle.flac_rescue.specs.Report.{and_samples}
use Rattle.flac_rescue.specs.declared.missing.Gap.{Gap}

pub drop_past : {A : Type 0} (xs : List A) (k : ℕ) → length xs ≤ k → drop k xs ≡ []
drop_past [] zero h = refl
drop_past [] (suc k) h = refl
drop_past (x ∷ xs) zero h = absurd (omega (arith, h))
drop_past (x ∷ xs) (suc k) h = drop_past xs k (omega (arith, h))

pub item_at : {A : Type 0} (xs : List A) (i : ℕ) (d : A) → i < length xs → drop i xs ≡ get_or xs i d ∷ drop (i + 1) xs
item_at xs i d h = rw (add-one, drop-cons xs i d) refl

-- ---- items that make a text

module _ {A : Type 0} (f : A → List ℕ) where
  pub text_more : (xs : List A) (i : ℕ) (d : A) (out new whole : List ℕ) → i < length xs → out ++ flat_map f (drop i xs) ≡ whole → new ≡ out ++ f (get_or xs i d) → new ++ flat_map f (drop (i + 1) xs) ≡ whole
  text_more xs i d out new whole h so_far is =
      ap (λ (l : List ℕ). l ++ flat_map f (drop (i + 1) xs)) is ∙ append_assoc out (f (get_or xs i d)) (flat_map f (drop (i + 1) xs))
      ∙ ap (λ (l : List A). out ++ flat_map f l) (sym (item_at xs i d h)) ∙ so_far

  pub text_ends : (xs : List A) (i : ℕ) (out whole : List ℕ) → length xs ≤ i → out ++ flat_map f (drop i xs) ≡ whole → out ≡ whole
  text_ends xs i out whole past e = sym (append-nil out) ∙ ap (λ (l : List A). out ++ flat_map f l) (sym (drop_past xs i past)) ∙ e

-- ---- gaps

abbrev pub zero_frame : WholeFrame
zero_frame = record { at = 0; bytes = 0; first = 0; size = 0 }

pub gap_more : (total end whole_start i start first : ℕ) (xs : List WholeFrame) (out new : List Gap) → i < length xs
    → out ++ gaps total end start first (drop i xs) ≡ gaps total end whole_start 0 xs
    → new ≡ out ++ record { start = start; end = (get_or xs i zero_frame).at; first = first; next = (get_or xs i zero_frame).first } ∷ []
    → new ++ gaps total end ((get_or xs i zero_frame).at + (get_or xs i zero_frame).bytes) (end_of (get_or xs i zero_frame)) (drop (i + 1) xs) ≡ gaps total end whole_start 0 xs
unfolding gaps
gap_more total end whole_start i start first xs out new h so_far is =
    let f : WholeFrame = get_or xs i zero_frame in
    let more : List Gap = gaps total end (f.at + f.bytes) (end_of f) (drop (i + 1) xs) in
    let one : Gap = record { start = start; end = f.at; first = first; next = f.first } in
    ap (λ (l : List Gap). l ++ more) is ∙ append_assoc out (one ∷ []) more ∙ ap (λ (l : List WholeFrame). out ++ gaps total end start first l) (sym (item_at xs i zero_frame h)) ∙ so_far

pub gap_ends : (total end whole_start i start first : ℕ) (xs : List WholeFrame) (out new : List Gap) (next : ℕ) → length xs ≤ i
    → out ++ gaps total end start first (drop i xs) ≡ gaps total end whole_start 0 xs
    → new ≡ out ++ record { start = start; end = end; first = first; next = next } ∷ [] → next ≡ last_of total first
    → new ≡ gaps total end whole_start 0 xs
unfolding gaps
gap_ends total end whole_start i start first xs out new next past so_far is last =
    is ∙ ap (λ k. out ++ record { start = start; end = end; first = first; next = k } ∷ []) last ∙ ap (λ (l : List WholeFrame). out ++ gaps total end start first l) (sym (drop_past xs i past)) ∙ so_far

pub within_at : (end i : ℕ) (xs : List WholeFrame) → i < length xs → AreWithin end (drop i xs) → ((get_or xs i zero_frame).at + (get_or xs i zero_frame).bytes ≤ end) × AreWithin end (drop (i + 1) xs)
within_at end i xs h w = subst (λ (l : List WholeFrame). AreWithin end l) (item_at xs i zero_frame h) w

pub rise_at : (limit from i : ℕ) (xs : List WholeFrame) → i < length xs → Rise limit from (drop i xs)
    → (from ≤ (get_or xs i zero_frame).first) × ((end_of (get_or xs i zero_frame) ≤ limit) × Rise limit (end_of (get_or xs i zero_frame)) (drop (i + 1) xs))
rise_at limit from i xs h r = subst (λ (l : List WholeFrame). Rise limit from l) (item_at xs i zero_frame h) r

-- ---- frames that are not kept

by_test : {A : Type 0} → (t : Bool) (xs ys : A) (P : A → Type 0) → (t ≡ true → P xs) → (t ≡ false → P ys) → P (cond t xs ys)
by_test true xs ys P p q = p refl
by_test false xs ys P p q = q refl

pub skip_one : (i j : ℕ) (found kept out whole : List WholeFrame) → i < length found → j < length kept → nat_eq (get_or kept j zero_frame).at (get_or found i zero_frame).at ≡ true
    → out ++ others (drop i found) (drop j kept) ≡ whole → out ++ others (drop (i + 1) found) (drop (j + 1) kept) ≡ whole
unfolding others
skip_one i j found kept out whole h k same so_far =
    let f : WholeFrame = get_or found i zero_frame in
    let g : WholeFrame = get_or kept j zero_frame in
    let a = ap (λ (l : List WholeFrame). out ++ others l (drop j kept)) (item_at found i zero_frame h) in
    let b = ap (λ (l : List WholeFrame). out ++ others (f ∷ drop (i + 1) found) l) (item_at kept j zero_frame k) in
    let step : others (f ∷ drop (i + 1) found) (g ∷ drop (j + 1) kept) ≡ others (drop (i + 1) found) (drop (j + 1) kept) =
    by_test (nat_eq g.at f.at) (others (drop (i + 1) found) (drop (j + 1) kept)) (f ∷ others (drop (i + 1) found) (g ∷ drop (j + 1) kept)) (λ (l : List WholeFrame). l ≡ others (drop (i + 1) found) (drop (j + 1) kept)) (λ t. refl) (λ t. absurd cc) in
    sym (a ∙ b ∙ ap (λ (l : List WholeFrame). out ++ l) step) ∙ so_far

pub other_differs : (i j : ℕ) (found kept out new whole : List WholeFrame) → i < length found → j < length kept → nat_eq (get_or kept j zero_frame).at (get_or found i zero_frame).at ≡ false
    → out ++ others (drop i found) (drop j kept) ≡ whole → new ≡ out ++ get_or found i zero_frame ∷ [] → new ++ others (drop (i + 1) found) (drop j kept) ≡ whole
unfolding others
other_differs i j found kept out new whole h k differ so_far is =
    let f : WholeFrame = get_or found i zero_frame in
    let g : WholeFrame = get_or kept j zero_frame in
    let rest : List WholeFrame = others (drop (i + 1) found) (drop j kept) in
    let a = ap (λ (l : List WholeFrame). out ++ others l (drop j kept)) (item_at found i zero_frame h) in
    let b = ap (λ (l : List WholeFrame). out ++ others (f ∷ drop (i + 1) found) l) (item_at kept j zero_frame k) in
    let back = ap (λ (l : List WholeFrame). out ++ f ∷ others (drop (i + 1) found) l) (sym (item_at kept j zero_frame k)) in
    let step : others (f ∷ drop (i + 1) found) (g ∷ drop (j + 1) kept) ≡ f ∷ others (drop (i + 1) found) (g ∷ drop (j + 1) kept) =
    by_test (nat_eq g.at f.at) (others (drop (i + 1) found) (drop (j + 1) kept)) (f ∷ others (drop (i + 1) found) (g ∷ drop (j + 1) kept)) (λ (l : List WholeFrame). l ≡ f ∷ others (drop (i + 1) found) (g ∷ drop (j + 1) kept)) (λ t. absurd cc) (λ t. refl) in
    ap (λ (l : List WholeFrame). l ++ rest) is ∙ append_assoc out (f ∷ []) rest ∙ sym (a ∙ b ∙ ap (λ (l : List WholeFrame). out ++ l) step ∙ back) ∙ so_far

pub other_last : (i j : ℕ) (found kept out new whole : List WholeFrame) → i < length found → length kept ≤ j
    → out ++ others (drop i found) (drop j kept) ≡ whole → new ≡ out ++ get_or found i zero_frame ∷ [] → new ++ others (drop (i + 1) found) (drop j kept) ≡ whole
unfolding others
other_last i j found kept out new whole h past so_far is =
    let f : WholeFrame = get_or found i zero_frame in
    let rest : List WholeFrame = others (drop (i + 1) found) (drop j kept) in
    let a = ap (λ (l : List WholeFrame). out ++ others l (drop j kept)) (item_at found i zero_frame h) in
    let b = ap (λ (l : List WholeFrame). out ++ others (f ∷ drop (i + 1) found) l) (drop_past kept j past) in
    let back = ap (λ (l : List WholeFrame). out ++ f ∷ others (drop (i + 1) found) l) (sym (drop_past kept j past)) in
    ap (λ (l : List WholeFrame). l ++ rest) is ∙ append_assoc out (f ∷ []) rest ∙ sym (a ∙ b ∙ back) ∙ so_far

pub kept_moves : (i j k : ℕ) (found kept left new whole : List WholeFrame) → left ++ others (drop i found) (drop j kept) ≡ whole → new ≡ left → k ≡ j → new ++ others (drop i found) (drop k kept) ≡ whole
kept_moves i j k found kept left new whole so_far is to =
    ap (λ (l : List WholeFrame). l ++ others (drop i found) (drop k kept)) is ∙ ap (λ n. left ++ others (drop i found) (drop n kept)) to ∙ so_far

pub others_end : (i j : ℕ) (found kept out whole : List WholeFrame) → length found ≤ i → out ++ others (drop i found) (drop j kept) ≡ whole → out ≡ whole
unfolding others
others_end i j found kept out whole past so_far = sym (append-nil out) ∙ ap (λ (l : List WholeFrame). out ++ others l (drop j kept)) (sym (drop_past found i past)) ∙ so_far

-- ---- samples

pub samples_more : (i n m whole : ℕ) (xs : List WholeFrame) → i < length xs → and_samples n (drop i xs) ≡ whole → m ≡ min (n + (get_or xs i zero_frame).size) (2 ^ 64 - 1) → and_samples m (drop (i + 1) xs) ≡ whole
unfolding and_samples
samples_more i n m whole xs h so_far is = ap (λ k. and_samples k (drop (i + 1) xs)) is ∙ ap (λ (l : List WholeFrame). and_samples n l) (sym (item_at xs i zero_frame h)) ∙ so_far

pub samples_end : (i n whole : ℕ) (xs : List WholeFrame) → length xs ≤ i → and_samples n (drop i xs) ≡ whole → n ≡ whole
unfolding and_samples
samples_end i n whole xs past so_far = ap (λ (l : List WholeFrame). and_samples n l) (sym (drop_past xs i past)) ∙ so_far
