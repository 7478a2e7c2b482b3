-- The wasted bits put back.
use Rattle.std.proofs.Common.{◌≡◌, ℕ, ◌+◌, ◌-◌, ◌*◌, ◌^◌, ◌≤◌, ◌<◌, refl, sym, ap, ◌∙◌, arith, ℤ, pos, ◌*ℤ◌, FitsSigned, to_z, of_z, w64, List, length, map, below_more, slice_set, All}
use Rattle.std.proofs.Math.IntN.{*ℤ-one, one}
use Rattle.std.specs.Int.RustNames.{unsigned_abs}
use Rattle.std.proofs.lemmas.Int.{ints, fits_signed_from_abs}
use Rattle.std.proofs.lemmas.Nat.{pow-add, pow_below}
use Rattle.std.proofs.lemmas.List.{get_or-set_same, get_or-set_other, ext_get_or, get_or-map}
use Rattle.std.proofs.lemmas.List.{length-map}
use Rattle.std.proofs.lemmas.List.Elements.{All-map}
use Rattle.flac_bits.specs.Signed.{FitsBits}
use Rattle.flac_subframe.specs.format.Numbers.{sample_at}
use Rattle.flac_subframe.proofs.lemmas.format.Bounds.{abs_product, back, stored}

module _ (w : ℕ) (few : w < 33) (z : ℤ) (f : FitsBits (33 - w) z) where
  abs_small : unsigned_abs z ≤ 2 ^ (32 - w)
  abs_small =
      let e : 33 - w - 1 ≡ 32 - w = omega arith in
      let h : FitsBits (33 - w) z = f in
      omega (arith, ints, ap (λ n. 2 ^ n) e, h.low, h.high)

  pub scaled_small : unsigned_abs (z *ℤ pos (2 ^ w)) ≤ 2 ^ 32
  scaled_small =
      let p = abs_product z (pos (2 ^ w)) (2 ^ (32 - w)) (2 ^ w) abs_small (omega arith) in
      let e : 32 - w + w ≡ 32 = omega arith in
      let whole : 2 ^ (32 - w) * 2 ^ w ≡ 2 ^ 32 = sym (pow-add 2 (32 - w) w) ∙ ap (λ n. 2 ^ n) e in
      rw whole at p

  same : to_z w64 (of_z w64 z) ≡ z
  same = stored (33 - w) z (omega arith) f

  power : to_z w64 (of_z w64 (pos (2 ^ w))) ≡ pos (2 ^ w)
  power = back (pos (2 ^ w)) (omega (arith, pow_below w 63 (omega arith)))

  module _ (v p : ℤ) (e : v ≡ z) (q : p ≡ pos (2 ^ w)) where
    pub product_fits : FitsSigned w64 (to_z w64 (of_z w64 v) *ℤ to_z w64 (of_z w64 p))
    product_fits = rw (e, q, same, power) (fits_signed_from_abs w64 (z *ℤ pos (2 ^ w)) (omega (arith, scaled_small)))

    pub product_is : to_z w64 (of_z w64 (to_z w64 (of_z w64 v) *ℤ to_z w64 (of_z w64 p))) ≡ z *ℤ pos (2 ^ w)
    product_is = rw (e, q, same, power) (back (z *ℤ pos (2 ^ w)) (omega (arith, scaled_small)))

-- the first i numbers are multiplied, and the rest stands as it was
pub record ScaledTo (w : ℕ) (r s : List ℤ) (i : ℕ) : Type 0 where
  pub before : (k : ℕ) → k < i → sample_at s k ≡ sample_at r k *ℤ pos (2 ^ w)
  pub after : (k : ℕ) → i ≤ k → sample_at s k ≡ sample_at r k

pub scaled_more : (w : ℕ) (r s : List ℤ) (i : ℕ) (v : ℤ) → i < length s → ScaledTo w r s i → v ≡ sample_at r i *ℤ pos (2 ^ w) → ScaledTo w r (slice_set s i v) (i + 1)
scaled_more w r s i v within so is = record {
  before = below_more _ i (λ k h. get_or-set_other s i k v (pos 0) (λ e. omega arith) ∙ so.before k h) (get_or-set_same s i v (pos 0) within ∙ is);
  after = λ k h. get_or-set_other s i k v (pos 0) (λ e. omega arith) ∙ so.after k (omega arith);
}

abbrev times : ℕ → ℤ → ℤ
times w z = z *ℤ pos (2 ^ w)

pub scaled_all : (w : ℕ) (r s : List ℤ) (i : ℕ) → length s ≡ length r → length s ≤ i → ScaledTo w r s i → s ≡ map (λ z. z *ℤ pos (2 ^ w)) r
scaled_all w r s i long over so =
    ext_get_or (pos 0) s (map (times w) r) (long ∙ sym (length-map r (times w)))
    (λ k h. so.before k (omega arith) ∙ sym (get_or-map (times w) r k (pos 0) (pos 0) (omega arith)))

-- without wasted bits nothing changes
pub scaled_none : (w : ℕ) (r : List ℤ) → w ≡ 0 → r ≡ map (λ z. z *ℤ pos (2 ^ w)) r
unfolding one
scaled_none w r e = scaled_all w r r (length r) refl (omega arith) (record { before = λ k h. rw e (sym (*ℤ-one (sample_at r k))); after = λ k h. refl })

in_34_bits : (z : ℤ) → unsigned_abs z ≤ 2 ^ 32 → FitsBits 34 z
in_34_bits z h = record { low = omega (arith, ints, h); high = omega (arith, ints, h) }

-- each product is small
pub scaled_fit : (w : ℕ) (xs : List ℤ) → w < 33 → All (FitsBits (33 - w)) xs → All (FitsBits 34) (map (λ z. z *ℤ pos (2 ^ w)) xs)
scaled_fit w xs few all = All-map (FitsBits 34) (times w) xs (λ k d within. in_34_bits _ (scaled_small w few _ (all k d within)))
