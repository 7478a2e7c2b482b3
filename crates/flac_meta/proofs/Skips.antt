-- Bits that are passed over.
use Rattle.std.proofs.Common.{◌≡◌, ℕ, zero, suc, ◌+◌, ◌-◌, ◌*◌, ◌/◌, ◌%◌, ◌<◌, ◌≤◌, Result, Ok, Err, refl, sym, ◌∙◌, arith}
use Rattle.std.specs.Prelude.{⊤}
use Rattle.flac_bits.specs.Bits.{bit_value}
use Rattle.flac_bits.specs.State.{Cursor}
use Rattle.flac_bits.specs.Layout.{run, and_then, next_bit, number_from, number_at, Reason}
use Rattle.flac_meta.specs.Padding.{skipped}

-- the bits after a begun number, whatever it is so far
unfoldable pub skip_from : ℕ → ℕ → Cursor → Result (⊤ × Cursor) Reason
skip_from n value c = and_then (number_from n value c) (λ _ d. Ok (tt, d))

nested : {A B C : Type 0} (r : Result (A × Cursor) Reason) (f : A → Cursor → Result (B × Cursor) Reason) (g : B → Cursor → Result (C × Cursor) Reason) → and_then (and_then r f) g ≡ and_then r (λ x d. and_then (f x d) g)
nested (Ok x) f g = refl
nested (Err e) f g = refl

same_then : {A B : Type 0} (r : Result (A × Cursor) Reason) (f g : A → Cursor → Result (B × Cursor) Reason) → ((x : A) (d : Cursor) → f x d ≡ g x d) → and_then r f ≡ and_then r g
same_then (Ok x) f g h = h x.0 x.1
same_then (Err e) f g h = refl

-- what is passed over does not matter
any_value : (n v w : ℕ) (c : Cursor) → skip_from n v c ≡ skip_from n w c
unfolding skip_from number_from
any_value zero v w c = refl
any_value (suc n) v w c =
    nested (next_bit c) (λ b d. number_from n (2 * v + bit_value b) d) (λ _ d. Ok (tt, d))
    ∙ same_then (next_bit c) _ _ (λ b d. any_value n (2 * v + bit_value b) (2 * w + bit_value b) d)
    ∙ sym (nested (next_bit c) (λ b d. number_from n (2 * w + bit_value b) d) (λ _ d. Ok (tt, d)))

-- m bits, and then n more
two_parts : (m n v : ℕ) (c : Cursor) → skip_from (m + n) v c ≡ and_then (number_from m v c) (λ _ d. skip_from n 0 d)
unfolding skip_from number_from
two_parts zero n v c = let k : 0 + n ≡ n = omega arith in rw k (any_value n v 0 c)
two_parts (suc m) n v c =
    let k : suc m + n ≡ suc (m + n) = omega arith in
    rw k (nested (next_bit c) (λ b d. number_from (m + n) (2 * v + bit_value b) d) (λ _ d. Ok (tt, d))
    ∙ same_then (next_bit c) _ _ (λ b d. two_parts m n (2 * v + bit_value b) d)
    ∙ sym (nested (next_bit c) (λ b d. number_from m (2 * v + bit_value b) d) (λ _ d. skip_from n 0 d)))

is_skip : (n : ℕ) (c : Cursor) → run (skipped n) c ≡ skip_from n 0 c
unfolding skipped skip_from number_at
is_skip n c = refl

parts : (m n : ℕ) (c : Cursor) → run (skipped (m + n)) c ≡ and_then (number_at m c) (λ _ d. run (skipped n) d)
unfolding number_at
parts m n c = is_skip (m + n) c ∙ two_parts m n 0 c ∙ same_then (number_from m 0 c) _ _ (λ v d. sym (is_skip n d))

-- one more word
pub skip_more : (length i : ℕ) (c : Cursor) → i < length / 8 → run (skipped (8 * length - 64 * i)) c ≡ and_then (number_at 64 c) (λ _ d. run (skipped (8 * length - 64 * (i + 1))) d)
skip_more length i c lt =
    let k : 8 * length - 64 * i ≡ 64 + (8 * length - 64 * (i + 1)) = omega arith in
    rw k (parts 64 (8 * length - 64 * (i + 1)) c)

-- the bits after the last word
pub skip_last : (length i : ℕ) (c : Cursor) → length / 8 ≤ i → i ≤ length / 8 → run (skipped (8 * length - 64 * i)) c ≡ and_then (number_at (8 * (length % 8)) c) (λ _ d. Ok (tt, d))
unfolding skipped
skip_last length i c le ge =
    let k : 8 * length - 64 * i ≡ 8 * (length % 8) = omega arith in
    rw k refl
