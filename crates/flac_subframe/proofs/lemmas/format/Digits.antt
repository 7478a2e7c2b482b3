-- How many bits a signed value takes, by its folded number.
use Rattle.std.proofs.Common.{◌≡◌, ◌↔◌, ℕ, zero, suc, ◌+◌, ◌-◌, ◌*◌, ◌^◌, ◌≤◌, ◌<◌, arith, ℤ, pos, negsuc, List, length, All, get_or, take, inl, inr, sym, ap, ◌∙◌, to_z, of_z, w32, w64}
use Rattle.std.proofs.lemmas.Bool.{cases_lt}
use Rattle.std.specs.Int.Count.{count_leading_zeros}
use Rattle.std.proofs.lemmas.Int.{ints}
use Rattle.std.proofs.lemmas.Nat.{leading_length}
use Rattle.std.proofs.lemmas.List.Elements.{All-more, All-from_get_or}
use Rattle.std.proofs.lemmas.List.{get_or-take, length-take}
use Rattle.std.proofs.Math.Nat.{pow-le-pow_right}
use Rattle.flac_subframe.specs.format.Spelling.{FitsWidth}
use Rattle.flac_bits.specs.Rice.{IsResidual, folded}

half : (n : ℕ) → 2 ^ (suc n - 1) ≡ 2 ^ n
half n = let e : suc n - 1 ≡ n = omega arith in ap (λ k. 2 ^ k) e

pub below_from_fits : (n : ℕ) (z : ℤ) → FitsWidth n z → folded z < 2 ^ n
below_from_fits zero (pos a) h = omega (arith, ints, h)
below_from_fits zero (negsuc a) h = absurd (omega (arith, ints, h))
below_from_fits (suc n) (pos a) h = omega (arith, ints, h.high, half n)
below_from_fits (suc n) (negsuc a) h = omega (arith, ints, h.low, half n)

pub fits_from_below : (n : ℕ) (z : ℤ) → folded z < 2 ^ n → FitsWidth n z
fits_from_below zero (pos a) h = omega (arith, ints)
fits_from_below zero (negsuc a) h = absurd (omega arith)
fits_from_below (suc n) (pos a) h = record { low = omega (arith, ints, half n); high = omega (arith, ints, half n) }
fits_from_below (suc n) (negsuc a) h = record { low = omega (arith, ints, half n); high = omega (arith, ints, half n) }

-- the digits of a number
pub digits_least : (size f n : ℕ) → f < 2 ^ size → ((f < 2 ^ n → size - count_leading_zeros size f ≤ n) × (size - count_leading_zeros size f ≤ n → f < 2 ^ n))
digits_least size f n within =
    let top = leading_length size f within in
    let m : ℕ = top.0 in
    let is : count_leading_zeros size f + m ≡ size = top.1 in
    let below : f < 2 ^ m = top.2 in
    let reaches : 2 ^ m ≤ 2 * f + 1 = top.3 in (
      λ h. elim (cases_lt n m) [
        | inl b ↦ let more : 2 ^ suc n ≤ 2 ^ m = pow-le-pow_right {n = 2} (omega arith) {i = suc n} {j = m} b in
            absurd (omega arith)
        | inr b ↦ omega arith
      ],
      λ h. let more : 2 ^ m ≤ 2 ^ n = pow-le-pow_right {n = 2} (omega arith) {i = m} {j = n} (omega arith) in omega arith,
    )

-- what holds of one more element
pub All_step : {X : Type 0} (P : X → Type 0) (xs : List X) (i : ℕ) (d : X) → i < length xs → (All P (take (i + 1) xs) ↔ (All P (take i xs) × P (get_or xs i d)))
All_step P xs i d within = (
  λ all. (
    All-from_get_or P (take i xs) d (λ k h.
        let b : k < i = omega (arith, length-take i xs) in
        let e : get_or (take (i + 1) xs) k d ≡ get_or (take i xs) k d = get_or-take (i + 1) xs k d (omega arith) ∙ sym (get_or-take i xs k d b) in
        rw e at (all k d (omega (arith, length-take (i + 1) xs)))),
    rw (get_or-take (i + 1) xs i d (omega arith)) at (all i d (omega (arith, length-take (i + 1) xs))),
  ),
  λ both. All-more P xs i d within both.0 both.1,
)

-- what casts to 64 bits, to 32 and back leave of a residual value
pub back_narrow : (z : ℤ) → IsResidual z → to_z w32 (of_z w32 (to_z w64 (of_z w64 z))) ≡ z
back_narrow z r = omega (arith, ints, r.low, r.high)
