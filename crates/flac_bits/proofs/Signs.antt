-- Signed numbers that are stored.
use Rattle.std.proofs.Common.{◌≡◌, ℕ, zero, suc, ◌-◌, ◌*◌, ◌/◌, ◌%◌, ◌^◌, ◌<◌, ◌≤◌, ℤ, pos, negsuc, ◌-ℤ◌, to_z, of_z, w64, FitsSigned, refl, ap, ◌∙◌, arith}
use Rattle.std.proofs.lemmas.Int.{ints}
use Rattle.std.proofs.lemmas.Bool.{le-ltb}
use Rattle.std.proofs.lemmas.Nat.{one_shl}
use Rattle.std.proofs.lemmas.Nat.Bits.{ones_shr}
use Rattle.std.proofs.Math.Nat.{pow-suc}
use Rattle.std.proofs.Math.Pow.{pow_mono}
use Rattle.flac_bits.specs.Rice.{IsResidual}
use Rattle.flac_bits.specs.Signed.{FitsBits, to_signed}

pub residual_kept : (z : ℤ) → IsResidual z → to_z w64 (of_z w64 z) ≡ z
residual_kept z fits = omega (arith, ints, fits.low, fits.high)

half_below : (n : ℕ) → 1 ≤ n → n ≤ 64 → 2 ^ (n - 1) ≤ 2 ^ 63
half_below n some few = pow_mono {i = n - 1} {j = 63} (omega (arith, some, few))

pub double : (n : ℕ) → 1 ≤ n → 2 ^ n ≡ 2 * 2 ^ (n - 1)
double zero some = absurd (omega (arith, some))
double (suc n) some = let e : suc n - 1 ≡ n = omega arith in rw (e, pow-suc) (omega arith)

pub signed_kept : (n : ℕ) (z : ℤ) → 1 ≤ n → n ≤ 64 → FitsBits n z → to_z w64 (of_z w64 z) ≡ z
signed_kept n z some few fits = omega (arith, ints, fits.low, fits.high, half_below n some few)

pub all_ones : (n : ℕ) → n ≤ 64 → 18446744073709551615 / 2 ^ (64 - n) ≡ 2 ^ n - 1
all_ones n few = let e : 64 - (64 - n) ≡ n = omega (arith, few) in ones_shr 64 (64 - n) (omega arith) ∙ ap (λ k. 2 ^ k - 1) e

pub half_or_more : (n v : ℕ) → 1 ≤ n → n ≤ 64 → 1 * 2 ^ (n - 1) % 2 ^ 64 ≤ v → 2 ^ (n - 1) ≤ v
half_or_more n v some few le = omega (arith, le, one_shl (n - 1) 64 (omega (arith, some, few)))

module _ (n v : ℕ) (some : 1 ≤ n) (few : n ≤ 64) (le : 2 ^ (n - 1) ≤ v) (lt : v < 2 ^ n) where
  rest_below : 2 ^ n - 1 - v < 2 ^ (n - 1)
  rest_below = omega (arith, le, lt, double n some)

  pub rest_fits : FitsSigned w64 (pos (2 ^ n - 1 - v))
  rest_fits = omega (arith, ints, rest_below, half_below n some few)

  is_rest : to_z w64 (of_z w64 (negsuc 0 -ℤ to_z w64 (2 ^ n - 1 - v))) ≡ negsuc (2 ^ n - 1 - v)
  is_rest = omega (arith, ints, rest_below, half_below n some few)

  pub high_value : to_z w64 (of_z w64 (negsuc 0 -ℤ to_z w64 (2 ^ n - 1 - v))) ≡ to_signed n v
  high_value = rw (is_rest, le-ltb v (2 ^ (n - 1)) le) refl

  pub high_fits : FitsBits n (to_z w64 (of_z w64 (negsuc 0 -ℤ to_z w64 (2 ^ n - 1 - v))))
  high_fits = rw is_rest (record { low = omega (arith, ints, rest_below); high = omega (arith, ints) })
