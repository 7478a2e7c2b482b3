-- Two sums of products in one number of 64 bits.
use Rattle.std.proofs.Common.{◌≡◌, ◌∙◌, ℕ, zero, suc, ◌+◌, ◌-◌, ◌*◌, ◌/◌, ◌%◌, ◌^◌, ◌≤◌, ◌<◌, refl, sym, ap, arith, ℤ, pos, negsuc, ◌+ℤ◌, ◌-ℤ◌, ◌*ℤ◌, bit_and, to_z, of_z, w64, FitsSigned}
use Rattle.std.proofs.Math.IntN.{*ℤ_comm, zero-*ℤ, suc_ℤ-*ℤ, pred_ℤ-*ℤ}
use Rattle.std.proofs.Math.Nat.{div-div-eq-div-mul, div-mul-le_self, div-le_self, add-mul}
use Rattle.std.proofs.lemmas.Nat.{mul-le, pow-add, div-mul-add, and_mask}
use Rattle.std.specs.Int.{int_shr}
use Rattle.std.specs.Int.RustNames.{unsigned_abs}
use Rattle.std.proofs.lemmas.Int.{ints, to_z-of_z, to_z_pos, fits_signed_from_abs}
use Rattle.flac_bits.specs.Signed.{FitsBits}
use Rattle.flac_subframe.specs.format.inner.Packing.{packed, paired}
use Rattle.flac_subframe.specs.format.inner.Summing.{IsHeld, IsNear}
use Rattle.flac_subframe.proofs.lemmas.format.Bounds.{back, back_15}

-- products of sums
more : (p pa pb q qa qb a b : ℤ) → p ≡ pa +ℤ pb → q ≡ p +ℤ (a +ℤ b) → qa ≡ pa +ℤ a → qb ≡ pb +ℤ b → q ≡ qa +ℤ qb
more p pa pb q qa qb a b e f g h = omega (arith, ints, e, f, g, h)

less : (p pa pb q qa qb a b : ℤ) → p ≡ pa +ℤ pb → q ≡ p -ℤ (a +ℤ b) → qa ≡ pa -ℤ a → qb ≡ pb -ℤ b → q ≡ qa +ℤ qb
less p pa pb q qa qb a b e f g h = omega (arith, ints, e, f, g, h)

none_of : (a b : ℤ) → pos 0 *ℤ (a +ℤ b) ≡ (pos 0 *ℤ a) +ℤ (pos 0 *ℤ b)
none_of a b = rw (zero-*ℤ (a +ℤ b), zero-*ℤ a, zero-*ℤ b) refl

times_sum : (m a b : ℤ) → m *ℤ (a +ℤ b) ≡ (m *ℤ a) +ℤ (m *ℤ b)
times_sum (pos zero) a b = none_of a b
times_sum (pos (suc k)) a b = more _ _ _ _ _ _ a b (times_sum (pos k) a b) (suc_ℤ-*ℤ (pos k) (a +ℤ b)) (suc_ℤ-*ℤ (pos k) a) (suc_ℤ-*ℤ (pos k) b)
times_sum (negsuc zero) a b = less _ _ _ _ _ _ a b (none_of a b) (pred_ℤ-*ℤ (pos 0) (a +ℤ b)) (pred_ℤ-*ℤ (pos 0) a) (pred_ℤ-*ℤ (pos 0) b)
times_sum (negsuc (suc k)) a b = less _ _ _ _ _ _ a b (times_sum (negsuc k) a b) (pred_ℤ-*ℤ (negsuc k) (a +ℤ b)) (pred_ℤ-*ℤ (negsuc k) a) (pred_ℤ-*ℤ (negsuc k) b)

sum_times : (a b m : ℤ) → (a +ℤ b) *ℤ m ≡ (a *ℤ m) +ℤ (b *ℤ m)
sum_times a b m = *ℤ_comm (a +ℤ b) m ∙ times_sum m a b ∙ rw (*ℤ_comm m a, *ℤ_comm m b) refl

times_times : (n : ℕ) (b m : ℤ) → (pos n *ℤ b) *ℤ m ≡ pos n *ℤ (b *ℤ m)
times_times zero b m = rw (zero-*ℤ b, zero-*ℤ m, zero-*ℤ (b *ℤ m)) refl
times_times (suc n) b m =
    let one : pos (suc n) *ℤ b ≡ (pos n *ℤ b) +ℤ b = suc_ℤ-*ℤ (pos n) b in
    let two : pos (suc n) *ℤ (b *ℤ m) ≡ (pos n *ℤ (b *ℤ m)) +ℤ (b *ℤ m) = suc_ℤ-*ℤ (pos n) (b *ℤ m) in
    ap (λ z. z *ℤ m) one ∙ sum_times (pos n *ℤ b) b m ∙ ap (λ z. z +ℤ (b *ℤ m)) (times_times n b m) ∙ sym two

-- both products by one multiplication
product_of : (c d x : ℤ) → paired c d *ℤ x ≡ (pos (2 ^ 32) *ℤ (c *ℤ x)) +ℤ (d *ℤ x)
product_of c d x = sum_times (pos (2 ^ 32) *ℤ c) d x ∙ ap (λ z. z +ℤ (d *ℤ x)) (times_times (2 ^ 32) c x)

regrouped : (h l p q : ℤ) → packed h l +ℤ ((pos (2 ^ 32) *ℤ p) +ℤ q) ≡ packed (h +ℤ p) (l +ℤ q)
regrouped h l p q = omega (arith, ints)

pub packed_more : (h l c d x : ℤ) → packed h l +ℤ (paired c d *ℤ x) ≡ packed (h +ℤ (c *ℤ x)) (l +ℤ (d *ℤ x))
packed_more h l c d x = ap (λ z. packed h l +ℤ z) (product_of c d x) ∙ regrouped h l (c *ℤ x) (d *ℤ x)

-- what is packed fits
pub packed_small : (h l : ℤ) → unsigned_abs h < 2 ^ 31 → unsigned_abs l < 2 ^ 31 → unsigned_abs (packed h l) < 2 ^ 63
packed_small h l f g = omega (arith, ints, f, g)

both_small : (p q : ℤ) → unsigned_abs p < 2 ^ 31 → unsigned_abs q < 2 ^ 31 → unsigned_abs ((pos (2 ^ 32) *ℤ p) +ℤ q) < 2 ^ 63
both_small p q f g = omega (arith, ints, f, g)

pub product_small : (c d x : ℤ) → unsigned_abs (c *ℤ x) < 2 ^ 31 → unsigned_abs (d *ℤ x) < 2 ^ 31 → unsigned_abs (paired c d *ℤ x) < 2 ^ 63
product_small c d x f g = rw (product_of c d x) (both_small (c *ℤ x) (d *ℤ x) f g)

-- the lowest bits
pub lowest_of : (z h l : ℤ) → FitsSigned w64 z → unsigned_abs l < 2 ^ 31 → z ≡ packed h l → pos (of_z w64 z % 2 ^ 32) ≡ l +ℤ pos (2 ^ 31)
lowest_of z h l fit small e = omega (arith, ints, fit, small, e)

-- the highest bits
parts : (a m s : ℕ) → m < 2 ^ 32 → (2 ^ 32 * a + m) / 2 ^ (32 + s) ≡ a / 2 ^ s
parts a m s lt =
    let split : 2 ^ (32 + s) ≡ 2 ^ 32 * 2 ^ s = pow-add 2 32 s in
    let e : 2 ^ 32 * a + m ≡ a * 2 ^ 32 + m = omega arith in
    rw (split, e) (sym (div-div-eq-div-mul (a * 2 ^ 32 + m) (2 ^ 32) (2 ^ s)) ∙ ap (λ k. k / 2 ^ s) (div-mul-add a (2 ^ 32) m lt))

shifted : (h y : ℤ) (s : ℕ) → unsigned_abs (y -ℤ pos (2 ^ 31)) < 2 ^ 31 → int_shr ((pos (2 ^ 32) *ℤ h) +ℤ y) (32 + s) ≡ int_shr h s
shifted h (negsuc m) s small = absurd (omega (arith, ints, small))
shifted (pos a) (pos m) s small =
    let e : (pos (2 ^ 32) *ℤ pos a) +ℤ pos m ≡ pos (2 ^ 32 * a + m) = omega (arith, ints) in
    ap (λ z. int_shr z (32 + s)) e ∙ ap pos (parts a m s (omega (arith, ints, small)))
shifted (negsuc a) (pos m) s small =
    let e : (pos (2 ^ 32) *ℤ negsuc a) +ℤ pos m ≡ negsuc (2 ^ 32 * a + (2 ^ 32 - 1 - m)) = omega (arith, ints, small) in
    ap (λ z. int_shr z (32 + s)) e ∙ ap negsuc (parts a (2 ^ 32 - 1 - m) s (omega arith))

pub shifted_is : (h l : ℤ) (s : ℕ) → unsigned_abs l < 2 ^ 31 → int_shr (packed h l) (32 + s) ≡ int_shr h s
shifted_is h l s small = shifted h (l +ℤ pos (2 ^ 31)) s (omega (arith, ints, small))

quotient_small : (a s : ℕ) → a < 2 ^ 63 → a / 2 ^ (32 + s) < 2 ^ 31
quotient_small a s lt =
    let split : 2 ^ (32 + s) ≡ 2 ^ 32 * 2 ^ s = pow-add 2 32 s in
    let first : a / 2 ^ 32 / 2 ^ s ≤ a / 2 ^ 32 = div-le_self (a / 2 ^ 32) (2 ^ s) in
    rw (split, ← div-div-eq-div-mul a (2 ^ 32) (2 ^ s)) (omega (arith, first, lt))

pub shifted_fits : (z : ℤ) (s : ℕ) → FitsSigned w64 z → unsigned_abs (int_shr z (32 + s)) ≤ 2 ^ 31
shifted_fits (pos a) s fit = let q = quotient_small a s (omega (arith, ints, fit)) in omega (arith, q)
shifted_fits (negsuc a) s fit = let q = quotient_small a s (omega (arith, ints, fit)) in omega (arith, q)

-- ---- as the code has them

pub pair_is : (h l : ℤ) → FitsBits 15 h → FitsBits 15 l → to_z w64 (of_z w64 (to_z w64 (of_z w64 (pos (2 ^ 32) *ℤ to_z w64 (of_z w64 h))) +ℤ to_z w64 (of_z w64 l))) ≡ paired h l
pair_is h l f g =
    let product : to_z w64 (of_z w64 (pos (2 ^ 32) *ℤ h)) ≡ pos (2 ^ 32) *ℤ h = back _ (omega (arith, ints, f.low, f.high)) in
    rw (back_15 h f, back_15 l g, product) (back _ (omega (arith, ints, f.low, f.high, g.low, g.high)))

pub after_is : (z h l : ℤ) (u : ℕ) → FitsSigned w64 z → u ≡ of_z w64 (to_z w64 (of_z w64 z)) → unsigned_abs l < 2 ^ 31 → z ≡ packed h l
    → to_z w64 (of_z w64 (to_z w64 (of_z w64 (pos (2 ^ 32) *ℤ to_z w64 (of_z w64 (to_z w64 (bit_and u 4294967295) -ℤ pos 2147483648)))) +ℤ pos 2147483648)) ≡ packed l (pos 0)
after_is z h l u fit is small e =
    let m : ℕ = u % 2 ^ 32 in
    let same : u ≡ of_z w64 z = is ∙ ap (of_z w64) (to_z-of_z w64 z fit) in
    let low : pos m ≡ l +ℤ pos (2 ^ 31) = ap (λ (k : ℕ). pos (k % 2 ^ 32)) same ∙ lowest_of z h l fit small e in
    let read : to_z w64 (bit_and u 4294967295) ≡ pos m = ap (to_z w64) (and_mask u 32) ∙ to_z_pos w64 m (omega (arith, ints, low, small)) in
    let taken : to_z w64 (bit_and u 4294967295) -ℤ pos 2147483648 ≡ l = rw read (omega (arith, ints, low)) in
    let held : to_z w64 (of_z w64 l) ≡ l = back l (omega (arith, small)) in
    let product : to_z w64 (of_z w64 (pos (2 ^ 32) *ℤ l)) ≡ pos (2 ^ 32) *ℤ l = back _ (omega (arith, ints, small)) in
    let sum : to_z w64 (of_z w64 ((pos (2 ^ 32) *ℤ l) +ℤ pos 2147483648)) ≡ (pos (2 ^ 32) *ℤ l) +ℤ pos 2147483648 = back _ (omega (arith, ints, small)) in
    let end : (pos (2 ^ 32) *ℤ l) +ℤ pos 2147483648 ≡ packed l (pos 0) = omega (arith, ints) in
    rw (taken, held, product) (sum ∙ end)

module _ (z r : ℤ) (s : ℕ) (fit : FitsSigned w64 z) (f : FitsBits 32 r) where
  sum_read : to_z w64 (of_z w64 (int_shr (to_z w64 (of_z w64 z)) (32 + s))) +ℤ r ≡ int_shr z (32 + s) +ℤ r
  sum_read =
      let same : to_z w64 (of_z w64 z) ≡ z = to_z-of_z w64 z fit in
      let q = shifted_fits z s fit in
      let high : to_z w64 (of_z w64 (int_shr z (32 + s))) ≡ int_shr z (32 + s) = back _ (omega (arith, q)) in
      rw (same, high) refl

  residual_kept : to_z w64 (of_z w64 r) ≡ r
  residual_kept = back r (omega (arith, ints, f.low, f.high))

  sum_less : unsigned_abs (int_shr z (32 + s) +ℤ r) < 2 ^ 63
  sum_less = let q = shifted_fits z s fit in omega (arith, ints, q, f.low, f.high)

  pub sample_fits : FitsSigned w64 (to_z w64 (of_z w64 (int_shr (to_z w64 (of_z w64 z)) (32 + s))) +ℤ to_z w64 (of_z w64 r))
  sample_fits = rw (residual_kept, sum_read) (fits_signed_from_abs w64 _ sum_less)

  pub sample_is : (h l : ℤ) → unsigned_abs l < 2 ^ 31 → z ≡ packed h l → to_z w64 (of_z w64 (to_z w64 (of_z w64 (int_shr (to_z w64 (of_z w64 z)) (32 + s))) +ℤ to_z w64 (of_z w64 r))) ≡ int_shr h s +ℤ r
  sample_is h l small e = rw (residual_kept, sum_read) (back _ sum_less ∙ ap (λ k. int_shr k (32 + s) +ℤ r) e ∙ ap (λ k. k +ℤ r) (shifted_is h l s small))

  pub sample_near : IsNear (to_z w64 (of_z w64 (to_z w64 (of_z w64 (int_shr (to_z w64 (of_z w64 z)) (32 + s))) +ℤ to_z w64 (of_z w64 r))))
  sample_near = let q = shifted_fits z s fit in rw (residual_kept, sum_read, back _ sum_less) (omega (arith, ints, q, f.low, f.high))

-- a sum and one product more
module _ (a f x : ℤ) (fa : FitsSigned w64 a) (ff : FitsSigned w64 f) (fx : FitsSigned w64 x) (product : IsHeld (f *ℤ x)) where
  factors_kept : to_z w64 (of_z w64 f) *ℤ to_z w64 (of_z w64 x) ≡ f *ℤ x
  factors_kept = rw (to_z-of_z w64 f ff, to_z-of_z w64 x fx) refl

  times : to_z w64 (of_z w64 a) +ℤ to_z w64 (of_z w64 (to_z w64 (of_z w64 f) *ℤ to_z w64 (of_z w64 x))) ≡ a +ℤ (f *ℤ x)
  times = rw (to_z-of_z w64 a fa, factors_kept, back (f *ℤ x) product) refl

  pub plus_is : IsHeld (a +ℤ (f *ℤ x)) → to_z w64 (of_z w64 (to_z w64 (of_z w64 a) +ℤ to_z w64 (of_z w64 (to_z w64 (of_z w64 f) *ℤ to_z w64 (of_z w64 x))))) ≡ a +ℤ (f *ℤ x)
  plus_is sum = rw times (back (a +ℤ (f *ℤ x)) sum)

-- a number that is below a quotient
pub below_quotient : (n q p : ℕ) → 1 ≤ p → q < n / p → q * p < n
below_quotient n q p some lt =
    let le : (q + 1) * p ≤ n / p * p = mul-le (q + 1) p (n / p) p (omega (arith, lt)) (omega arith) in
    let most : n / p * p ≤ n = div-mul-le_self n p in
    let split : (q + 1) * p ≡ q * p + 1 * p = add-mul q 1 p in
    omega (arith, le, most, split, some)
