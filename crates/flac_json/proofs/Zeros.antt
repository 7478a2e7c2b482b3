-- Bytes without the zeros at their end.
use Rattle.std.proofs.Common.{◌≡◌, ◌<◌, ◌≤◌, ◌+◌, ◌-◌, ℕ, Bool, true, false, List, [], ◌∷◌, ◌++◌, length, take, get_or, nat_eq, cond, refl, sym, ap, ◌∙◌, arith}
use Rattle.std.proofs.lemmas.Bool.Decides.{nat_tests}
use Rattle.std.proofs.lemmas.List.{take_more}
use Rattle.flac_json.specs.Blocks.{zero_before, without_zeros}

-- a zero at the end
zero_last : (xs : List ℕ) → without_zeros (xs ++ 0 ∷ []) ≡ without_zeros xs
zero_last [] = refl
zero_last (x ∷ xs) = ap (zero_before x) (zero_last xs)

-- another byte at the end
before_some : (x : ℕ) (ys : List ℕ) (y : ℕ) → zero_before x (ys ++ y ∷ []) ≡ x ∷ (ys ++ y ∷ [])
before_some x [] y = refl
before_some x (z ∷ zs) y = refl

is_zero : (y : ℕ) → nat_eq y 0 ≡ true → y ≡ 0
is_zero y h = grind (arith, nat_tests)

kept_by : (y : ℕ) (b : Bool) → nat_eq y 0 ≡ b → (y ≡ 0 → ⊥) → cond b [] (y ∷ []) ≡ y ∷ []
kept_by y true is never = absurd (never (is_zero y is))
kept_by y false is never = refl

other_last : (xs : List ℕ) (y : ℕ) → (y ≡ 0 → ⊥) → without_zeros (xs ++ y ∷ []) ≡ xs ++ y ∷ []
other_last [] y never = kept_by y (nat_eq y 0) refl never
other_last (x ∷ xs) y never = ap (zero_before x) (other_last xs y never) ∙ before_some x xs y

abbrev pub Trims : List ℕ → ℕ → Type 0
Trims bytes end = without_zeros (take end bytes) ≡ without_zeros bytes

last_of : (bytes : List ℕ) (end : ℕ) → 0 < end → end ≤ length bytes → take end bytes ≡ take (end - 1) bytes ++ get_or bytes (end - 1) 0 ∷ []
last_of bytes end some within =
    let e : end ≡ end - 1 + 1 = omega (arith, some) in
    ap (λ n. take n bytes) e ∙ take_more bytes (end - 1) 0 (omega (arith, some, within))

-- one zero less
pub trims_more : (bytes : List ℕ) (end : ℕ) → 0 < end → end ≤ length bytes → get_or bytes (end - 1) 0 ≡ 0 → Trims bytes end → Trims bytes (end - 1)
trims_more bytes end some within is trims =
    sym (zero_last (take (end - 1) bytes)) ∙ ap (λ x. without_zeros (take (end - 1) bytes ++ x ∷ [])) (sym is) ∙ ap without_zeros (sym (last_of bytes end some within)) ∙ trims

-- no more zeros
pub trims_none : (bytes : List ℕ) (end : ℕ) → end ≤ 0 → Trims bytes end → take end bytes ≡ without_zeros bytes
trims_none bytes end none trims =
    let e : end ≡ 0 = omega (arith, none) in
    ap (λ n. take n bytes) e ∙ nothing bytes ∙ sym (ap without_zeros (ap (λ n. take n bytes) e ∙ nothing bytes)) ∙ trims
  where
    nothing : (bytes : List ℕ) → take 0 bytes ≡ []
    nothing [] = refl
    nothing (x ∷ xs) = refl

pub trims_other : (bytes : List ℕ) (end : ℕ) → 0 < end → end ≤ length bytes → (get_or bytes (end - 1) 0 ≡ 0 → ⊥) → Trims bytes end → take end bytes ≡ without_zeros bytes
trims_other bytes end some within never trims =
    let l = last_of bytes end some within in
    l ∙ sym (other_last (take (end - 1) bytes) (get_or bytes (end - 1) 0) never) ∙ ap without_zeros (sym l) ∙ trims
