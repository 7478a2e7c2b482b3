-- Bounds on signed products and sums.
use Rattle.std.proofs.Common.{◌≡◌, ℕ, ◌+◌, ◌-◌, ◌*◌, ◌^◌, ◌≤◌, ◌<◌, refl, arith, ℤ, pos, ◌+ℤ◌, ◌*ℤ◌, FitsSigned, to_z, of_z, w32, w64, negsuc, List, All}
use Rattle.std.specs.Int.RustNames.{unsigned_abs}
use Rattle.std.specs.Int.{int_shr}
use Rattle.std.proofs.lemmas.Int.{ints, to_z-of_z, unsigned_abs-mul, fits_signed_from_abs}
use Rattle.std.proofs.lemmas.Nat.{mul-le, shr_le}
use Rattle.std.proofs.Math.Nat.{pow-le-pow_right}
use Rattle.flac_bits.specs.Rice.{IsResidual}
use Rattle.flac_bits.specs.Signed.{FitsBits}
use Rattle.flac_subframe.specs.format.inner.Summing.{IsNear}

pub abs_from_bits_15 : (z : ℤ) → FitsBits 15 z → unsigned_abs z ≤ 2 ^ 14
abs_from_bits_15 z f = omega (arith, ints, f.low, f.high)

pub abs_from_bits_33 : (z : ℤ) → FitsBits 33 z → unsigned_abs z ≤ 2 ^ 32
abs_from_bits_33 z f = omega (arith, ints, f.low, f.high)

pub abs_product : (a b : ℤ) (m n : ℕ) → unsigned_abs a ≤ m → unsigned_abs b ≤ n → unsigned_abs (a *ℤ b) ≤ m * n
abs_product a b m n p q = rw (unsigned_abs-mul a b) (mul-le (unsigned_abs a) (unsigned_abs b) m n p q)

-- one term of the sum of products
pub term_small : (c x : ℤ) → FitsBits 15 c → FitsBits 33 x → unsigned_abs (c *ℤ x) ≤ 2 ^ 46
term_small c x f g = abs_product c x (2 ^ 14) (2 ^ 32) (abs_from_bits_15 c f) (abs_from_bits_33 x g)

-- the bits of a number
pub below_64 : (z : ℤ) → FitsSigned w64 z → of_z w64 z < 2 ^ 64
below_64 z fit = omega (arith, ints, fit)

-- what a cast to 64 bits and back leaves
pub back : (z : ℤ) → unsigned_abs z < 2 ^ 63 → to_z w64 (of_z w64 z) ≡ z
back z h = to_z-of_z w64 z (fits_signed_from_abs w64 z h)

-- what a call answered, as the code has it
pub near_back : (z : ℤ) → IsNear z → IsNear (to_z w64 (of_z w64 z))
near_back z h = rw (back z (omega (arith, h))) h

pub back_32 : (z : ℤ) → FitsBits 15 z → to_z w32 (of_z w32 z) ≡ z
back_32 z f = to_z-of_z w32 z (fits_signed_from_abs w32 z (omega (arith, abs_from_bits_15 z f)))

pub back_15 : (z : ℤ) → FitsBits 15 z → to_z w64 (of_z w64 z) ≡ z
back_15 z f = back z (omega (arith, abs_from_bits_15 z f))

pub back_33 : (z : ℤ) → FitsBits 33 z → to_z w64 (of_z w64 z) ≡ z
back_33 z f = back z (omega (arith, abs_from_bits_33 z f))

module _ (r c x : ℤ) (e : r ≡ to_z w32 (of_z w32 c)) (f : FitsBits 15 c) (g : FitsBits 33 x) where
  -- the product as the code has it
  pub product_is : to_z w64 (of_z w64 r) *ℤ to_z w64 (of_z w64 x) ≡ c *ℤ x
  product_is = rw (e, back_32 c f, back_15 c f, back_33 x g) refl

  pub product_fits : FitsSigned w64 (to_z w64 (of_z w64 r) *ℤ to_z w64 (of_z w64 x))
  product_fits = rw product_is (fits_signed_from_abs w64 (c *ℤ x) (omega (arith, term_small c x f g)))

  pub product_back : to_z w64 (of_z w64 (to_z w64 (of_z w64 r) *ℤ to_z w64 (of_z w64 x))) ≡ c *ℤ x
  product_back = rw product_is (back (c *ℤ x) (omega (arith, term_small c x f g)))

  module _ (sum : ℤ) (k : ℕ) (few : k < 32) (small : unsigned_abs sum ≤ 2 ^ 46 * k) where
    pub sum_small : unsigned_abs (sum +ℤ (c *ℤ x)) ≤ 2 ^ 46 * (k + 1)
    sum_small = omega (arith, ints, term_small c x f g)

    pub sum_fits : FitsSigned w64 (sum +ℤ to_z w64 (of_z w64 (to_z w64 (of_z w64 r) *ℤ to_z w64 (of_z w64 x))))
    sum_fits = rw product_back (fits_signed_from_abs w64 (sum +ℤ (c *ℤ x)) (omega (arith, sum_small)))

    pub sum_back : to_z w64 (of_z w64 (sum +ℤ to_z w64 (of_z w64 (to_z w64 (of_z w64 r) *ℤ to_z w64 (of_z w64 x))))) ≡ sum +ℤ (c *ℤ x)
    sum_back = rw product_back (back (sum +ℤ (c *ℤ x)) (omega (arith, sum_small)))

-- a sum shifted to the right is no larger
pub shifted_small : (z : ℤ) (k : ℕ) → unsigned_abs z ≤ 2 ^ 51 → unsigned_abs (int_shr z k) ≤ 2 ^ 51
shifted_small (pos a) k h = omega (arith, shr_le a k)
shifted_small (negsuc a) k h = omega (arith, shr_le a k)

pub fits_more : (bits : ℕ) (z : ℤ) → bits ≤ 33 → FitsBits bits z → FitsBits 33 z
fits_more bits z small f =
    let h : 2 ^ (bits - 1) ≤ 2 ^ 32 = pow-le-pow_right {n = 2} (omega arith) {i = bits - 1} {j = 32} (omega arith) in
    record { low = omega (arith, ints, f.low); high = omega (arith, ints, f.high) }

-- what a place of 64 bits holds of a number of at most 33
pub stored : (bits : ℕ) (z : ℤ) → bits ≤ 33 → FitsBits bits z → to_z w64 (of_z w64 z) ≡ z
stored bits z few f = back_33 z (fits_more bits z few f)

pub fits_up : (m n : ℕ) (z : ℤ) → m ≤ n → FitsBits m z → FitsBits n z
fits_up m n z le f =
    let h : 2 ^ (m - 1) ≤ 2 ^ (n - 1) = pow-le-pow_right {n = 2} (omega arith) {i = m - 1} {j = n - 1} (omega arith) in
    record { low = omega (arith, ints, f.low, f.high); high = omega (arith, ints, f.low, f.high) }

pub all_fit_32 : (n : ℕ) (zs : List ℤ) → n ≤ 32 → All (FitsBits n) zs → All (FitsBits 32) zs
all_fit_32 n zs few h = λ k d within. fits_up n 32 _ few (h k d within)

pub all_fit_15 : (n : ℕ) (zs : List ℤ) → n ≤ 15 → All (FitsBits n) zs → All (FitsBits 15) zs
all_fit_15 n zs few h = λ k d within. fits_up n 15 _ few (h k d within)

-- the same for a place of 32 bits and a coefficient
pub stored_32 : (bits : ℕ) (z : ℤ) → bits ≤ 15 → FitsBits bits z → to_z w32 (of_z w32 z) ≡ z
stored_32 bits z few f = back_32 z (fits_up bits 15 z few f)

pub residuals_fit : (zs : List ℤ) → All IsResidual zs → All (FitsBits 32) zs
residuals_fit zs h = λ k d within. let r = h k d within in record { low = omega (arith, ints, r.low); high = omega (arith, ints, r.high) }
