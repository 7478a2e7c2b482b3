-- What is made of a list one item after another.
use Rattle.std.proofs.Common.{◌≡◌, ℕ, zero, suc, ◌+◌, ◌-◌, ◌<◌, ◌≤◌, Bool, true, false, List, [], ◌∷◌, ◌++◌, length, take, drop, get_or, refl, sym, ap, ◌∙◌, add-one, drop-cons, append_assoc, arith}
use Rattle.std.specs.Prelude.{cond, flat_map}
use Rattle.std.proofs.lemmas.List.{append-nil, length-drop}
use Rattle.std.proofs.Math.Seq.{take-length}

pub drop_past : {A : Type 0} (xs : List A) (k : ℕ) → length xs ≤ k → drop k xs ≡ []
drop_past [] zero h = refl
drop_past [] (suc k) h = refl
drop_past (x ∷ xs) zero h = absurd (omega (arith, h))
drop_past (x ∷ xs) (suc k) h = drop_past xs k (omega (arith, h))

pub item_at : {A : Type 0} (xs : List A) (i : ℕ) (d : A) → i < length xs → drop i xs ≡ get_or xs i d ∷ drop (i + 1) xs
item_at xs i d h = rw (add-one, drop-cons xs i d) refl

module _ {A B : Type 0} (f : A → List B) where
  pub text_more : (xs : List A) (i : ℕ) (d : A) (out new whole : List B) → i < length xs → out ++ flat_map f (drop i xs) ≡ whole → new ≡ out ++ f (get_or xs i d) → new ++ flat_map f (drop (i + 1) xs) ≡ whole
  text_more xs i d out new whole h so_far is =
      ap (λ (l : List B). l ++ flat_map f (drop (i + 1) xs)) is ∙ append_assoc out (f (get_or xs i d)) (flat_map f (drop (i + 1) xs))
      ∙ ap (λ (l : List A). out ++ flat_map f l) (sym (item_at xs i d h)) ∙ so_far

  pub text_ends : (xs : List A) (i : ℕ) (out whole : List B) → length xs ≤ i → out ++ flat_map f (drop i xs) ≡ whole → out ≡ whole
  text_ends xs i out whole past e = sym (append-nil out) ∙ ap (λ (l : List A). out ++ flat_map f l) (sym (drop_past xs i past)) ∙ e

-- ---- choices

pub if_true : {A : Type 0} (t : Bool) (x y : A) → t ≡ true → cond t x y ≡ x
if_true t x y h = ap (λ b. cond b x y) h

pub if_false : {A : Type 0} (t : Bool) (x y : A) → t ≡ false → cond t x y ≡ y
if_false t x y h = ap (λ b. cond b x y) h

-- all that follows the first items
pub all_taken : {A : Type 0} (k : ℕ) (xs : List A) → take (length xs - k) (drop k xs) ≡ drop k xs
all_taken k xs = ap (λ n. take n (drop k xs)) (sym (length-drop k xs)) ∙ take-length (drop k xs)
