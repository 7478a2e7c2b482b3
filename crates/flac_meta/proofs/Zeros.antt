-- Bits that are all zeros.
use Rattle.std.proofs.Common.{◌≡◌, ℕ, zero, suc, ◌+◌, ◌-◌, ◌*◌, ◌/◌, ◌%◌, ◌<◌, ◌≤◌, Result, Ok, Err, Bool, true, false, cond, ◌&&◌, nat_eq, refl, sym, ap, ◌∙◌, arith}
use Rattle.std.proofs.lemmas.Bool.Decides.{nat_tests}
use Rattle.flac_bits.specs.Bits.{bit_value}
use Rattle.flac_bits.specs.State.{Cursor}
use Rattle.flac_bits.specs.Layout.{run, and_then, next_bit, number_from, number_at, Reason}
use Rattle.flac_meta.specs.Fields.{zeros}

-- n more bits after bits that were all zeros, or were not
unfoldable pub zeros_then : ℕ → Bool → Cursor → Result (Bool × Cursor) Reason
zeros_then n clear c = and_then (number_from n (cond clear 0 1) c) (λ v d. Ok (nat_eq v 0, d))

nested : {A B C : Type 0} (r : Result (A × Cursor) Reason) (f : A → Cursor → Result (B × Cursor) Reason) (g : B → Cursor → Result (C × Cursor) Reason) → and_then (and_then r f) g ≡ and_then r (λ x d. and_then (f x d) g)
nested (Ok x) f g = refl
nested (Err e) f g = refl

same_then : {A B : Type 0} (r : Result (A × Cursor) Reason) (f g : A → Cursor → Result (B × Cursor) Reason) → ((x : A) (d : Cursor) → f x d ≡ g x d) → and_then r f ≡ and_then r g
same_then (Ok x) f g h = h x.0 x.1
same_then (Err e) f g h = refl

odd : (k : ℕ) → nat_eq (2 * k + 1) 0 ≡ false
odd k = grind (arith, nat_tests)

even : (k : ℕ) → nat_eq (2 * k + 0) 0 ≡ nat_eq k 0
even k = grind (arith, nat_tests)

-- a number is zero if its parts are
bit_more : (clear b : Bool) (v u : ℕ) → nat_eq v 0 ≡ (clear && nat_eq u 0) → nat_eq (2 * v + bit_value b) 0 ≡ (clear && nat_eq (2 * u + bit_value b) 0)
bit_more true true v u h = odd v ∙ sym (odd u)
bit_more false true v u h = odd v
bit_more true false v u h = even v ∙ h ∙ sym (even u)
bit_more false false v u h = even v ∙ h

-- only whether the bits before were zeros matters
any_front : (n v u : ℕ) (clear : Bool) (c : Cursor) → nat_eq v 0 ≡ (clear && nat_eq u 0) → and_then (number_from n v c) (λ x d. Ok (nat_eq x 0, d)) ≡ and_then (number_from n u c) (λ x d. Ok (clear && nat_eq x 0, d))
unfolding number_from
any_front zero v u clear c h = ap (λ z. okay (z, c)) h
  where
    okay : {B : Type 0} → B × Cursor → Result (B × Cursor) Reason
    okay y = Ok y
any_front (suc n) v u clear c h =
    nested (next_bit c) (λ b d. number_from n (2 * v + bit_value b) d) (λ x d. Ok (nat_eq x 0, d))
    ∙ same_then (next_bit c) _ _ (λ b d. any_front n (2 * v + bit_value b) (2 * u + bit_value b) clear d (bit_more clear b v u h))
    ∙ sym (nested (next_bit c) (λ b d. number_from n (2 * u + bit_value b) d) (λ x d. Ok (clear && nat_eq x 0, d)))

number_parts : (m n v : ℕ) (c : Cursor) → number_from (m + n) v c ≡ and_then (number_from m v c) (λ w d. number_from n w d)
unfolding number_from
number_parts zero n v c = let k : 0 + n ≡ n = omega arith in rw k refl
number_parts (suc m) n v c =
    let k : suc m + n ≡ suc (m + n) = omega arith in
    rw k (same_then (next_bit c) _ _ (λ b d. number_parts m n (2 * v + bit_value b) d) ∙ sym (nested (next_bit c) (λ b d. number_from m (2 * v + bit_value b) d) (λ w d. number_from n w d)))

stays : (b : Bool) → b ≡ nat_eq (cond b 0 1) 0
stays true = refl
stays false = refl

front_is : (clear : Bool) → nat_eq (cond clear 0 1) 0 ≡ (clear && true)
front_is true = refl
front_is false = refl

-- m bits, and then n more
zeros_parts : (m n : ℕ) (clear : Bool) (c : Cursor) → zeros_then (m + n) clear c ≡ and_then (number_at m c) (λ w d. zeros_then n (clear && nat_eq w 0) d)
unfolding zeros_then number_at
zeros_parts m n clear c =
    ap (λ r. and_then r (λ v d. Ok (nat_eq v 0, d))) (number_parts m n (cond clear 0 1) c)
    ∙ nested (number_from m (cond clear 0 1) c) (λ w d. number_from n w d) (λ v d. Ok (nat_eq v 0, d))
    ∙ same_then (number_from m (cond clear 0 1) c) _ _ (λ w d. any_front n w (cond (nat_eq w 0) 0 1) true d (stays (nat_eq w 0)))
    ∙ sym (nested (number_from m (cond clear 0 1) c) (λ w d. Ok (nat_eq w 0, d)) (λ b d. zeros_then n b d))
    ∙ ap (λ r. and_then r (λ b d. zeros_then n b d)) (any_front m (cond clear 0 1) 0 clear c (front_is clear))
    ∙ nested (number_from m 0 c) (λ w d. Ok (clear && nat_eq w 0, d)) (λ b d. zeros_then n b d)

begins : (count : ℕ) (c : Cursor) → run (zeros count) c ≡ zeros_then count true c
unfolding zeros zeros_then number_at
begins count c = refl

-- the bits before the first whole word
pub zeros_first : (count : ℕ) (c : Cursor) → run (zeros count) c ≡ and_then (number_at (count % 64) c) (λ w d. zeros_then (64 * (count / 64 - 0)) (nat_eq w 0) d)
zeros_first count c = is_zeros ∙ ap (λ n. zeros_then n true c) split ∙ zeros_parts (count % 64) (64 * (count / 64 - 0)) true c
  where
    is_zeros : run (zeros count) c ≡ zeros_then count true c
    is_zeros = begins count c

    split : count ≡ count % 64 + 64 * (count / 64 - 0)
    split = omega arith

-- one more word
pub zeros_more : (k i : ℕ) (clear : Bool) (c : Cursor) → i < k → zeros_then (64 * (k - i)) clear c ≡ and_then (number_at 64 c) (λ w d. zeros_then (64 * (k - (i + 1))) (clear && nat_eq w 0) d)
zeros_more k i clear c lt =
    let e : 64 * (k - i) ≡ 64 + 64 * (k - (i + 1)) = omega arith in
    rw e (zeros_parts 64 (64 * (k - (i + 1))) clear c)

pub zeros_end : (k i : ℕ) (clear : Bool) (c : Cursor) → k ≤ i → zeros_then (64 * (k - i)) clear c ≡ Ok (clear, c)
unfolding zeros_then number_from
zeros_end k i clear c le =
    let e : 64 * (k - i) ≡ 0 = omega arith in
    rw e (ap (λ b. okay (b, c)) (sym (stays clear)))
  where
    okay : {B : Type 0} → B × Cursor → Result (B × Cursor) Reason
    okay y = Ok y
