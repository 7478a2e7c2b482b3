-- Restoration with the last samples held beside the slice.
use Rattle.std.proofs.Common.{◌≡◌, ℕ, zero, suc, ◌+◌, ◌-◌, ◌^◌, ◌≤◌, ◌<◌, refl, sym, ap, arith, ℤ, pos, ◌+ℤ◌, ◌-ℤ◌, List, [], ◌∷◌, length, slice_index_or, to_z, of_z, w64}
use Rattle.std.specs.Int.{int_shr}
use Rattle.std.specs.Int.RustNames.{unsigned_abs}
use Rattle.std.proofs.lemmas.Int.{ints}
use Rattle.std.proofs.lemmas.List.{get_or_default}
use Rattle.flac_bits.specs.Signed.{FitsBits}
use Rattle.flac_subframe.specs.format.Numbers.{sample_at}
use Rattle.flac_subframe.specs.format.Prediction.{prediction, weighted, fixed_coefficients}
use Rattle.flac_subframe.specs.format.inner.Sums.{fourth_of}
use Rattle.flac_subframe.proofs.lemmas.format.Bounds.{fits_more}
use Rattle.flac_subframe.proofs.lemmas.format.Predicted.{fixed_length}

-- a prediction reads as many of the nearest samples as it has coefficients
pub weighted_nearest : (cs s t : List ℤ) (i j : ℕ) → length cs ≤ i → length cs ≤ j → ((k : ℕ) → k < length cs → sample_at s (i - 1 - k) ≡ sample_at t (j - 1 - k)) → weighted cs s i ≡ weighted cs t j
unfolding weighted
weighted_nearest [] s t i j long wide same = refl
weighted_nearest (c ∷ cs) s t i j long wide same =
    let a : i - 1 - 0 ≡ i - 1 = omega arith in
    let b : j - 1 - 0 ≡ j - 1 = omega arith in
    let here : sample_at s (i - 1) ≡ sample_at t (j - 1) = rw (a, b) at (same 0 (omega arith)) in
    let rest : weighted cs s (i - 1) ≡ weighted cs t (j - 1) = weighted_nearest cs s t (i - 1) (j - 1) (omega arith) (omega arith) (λ k h.
    let e : i - 1 - 1 - k ≡ i - 1 - (k + 1) = omega arith in
    let f : j - 1 - 1 - k ≡ j - 1 - (k + 1) = omega arith in
    rw (e, f) (same (k + 1) (omega arith))) in
    rw (here, rest) refl

-- the last samples before an index, as many of them as the order
pub record HoldsLast (order : ℕ) (s : List ℤ) (i : ℕ) (first second third fourth : ℤ) : Type 0 where
  pub one : 1 ≤ order → first ≡ sample_at s (i - 1)
  pub two : 2 ≤ order → second ≡ sample_at s (i - 2)
  pub three : 3 ≤ order → third ≡ sample_at s (i - 3)
  pub four : 4 ≤ order → fourth ≡ sample_at s (i - 4)

module _ (order : ℕ) (s : List ℤ) (i : ℕ) (first second third fourth : ℤ) (few : order ≤ 4) (long : order ≤ i) (so : HoldsLast order s i first second third fourth) where
  nearest : (k : ℕ) → k < order → sample_at s (i - 1 - k) ≡ sample_at (fourth ∷ third ∷ second ∷ first ∷ []) (4 - 1 - k)
  nearest zero h = let e : i - 1 - 0 ≡ i - 1 = omega arith in rw e (sym (so.one (omega arith)))
  nearest (suc zero) h = let e : i - 1 - 1 ≡ i - 2 = omega arith in rw e (sym (so.two (omega arith)))
  nearest (suc (suc zero)) h = let e : i - 1 - 2 ≡ i - 3 = omega arith in rw e (sym (so.three (omega arith)))
  nearest (suc (suc (suc zero))) h = let e : i - 1 - 3 ≡ i - 4 = omega arith in rw e (sym (so.four (omega arith)))
  nearest (suc (suc (suc (suc k)))) h = absurd (omega arith)

  pub predicted_after : prediction (fixed_coefficients order) 0 (fourth ∷ third ∷ second ∷ first ∷ []) 4 ≡ prediction (fixed_coefficients order) 0 s i
  predicted_after =
      let size = fixed_length order few in
      ap (λ (z : ℤ). int_shr z 0) (sym (weighted_nearest (fixed_coefficients order) s (fourth ∷ third ∷ second ∷ first ∷ []) i 4 (omega (arith, size)) (omega (arith, size)) (λ k h. nearest k (omega (arith, size)))))

-- the sum as the code has it: what was predicted, and the residual
pub sum_near : (p q x y : ℤ) → p ≡ q → unsigned_abs p ≤ 2 ^ 51 → x ≡ y → FitsBits 32 y → to_z w64 (of_z w64 (to_z w64 (of_z w64 p) +ℤ to_z w64 (of_z w64 x))) ≡ q +ℤ y
sum_near p q x y e small same fit = rw (same, ← e) (omega (arith, ints, fit.low, fit.high))

-- the samples before an index fit, whatever is read past the end
pub fits_before : (bits : ℕ) (s : List ℤ) (i : ℕ) → bits ≤ 33 → i ≤ length s → ((k : ℕ) → k < i → FitsBits bits (sample_at s k)) → (k : ℕ) (d : ℤ) → 0 ≤ k → k < i → FitsBits 33 (slice_index_or s k d)
fits_before bits s i small within fits k d low high = rw (get_or_default s k d (pos 0) (omega arith)) (fits_more bits (sample_at s k) small (fits k high))

-- a residual as the code has it
pub kept_near : (x y : ℤ) → x ≡ y → FitsBits 32 y → to_z w64 (of_z w64 x) ≡ y
kept_near x y same fit = rw same (omega (arith, ints, fit.low, fit.high))

-- the fourth sample, from the first and the differences of all four
pub fourth_plain : (a b c d s p q n m t : ℤ) → s ≡ a -ℤ b → p ≡ b -ℤ c → q ≡ c -ℤ d → n ≡ s -ℤ p → m ≡ p -ℤ q → t ≡ n -ℤ m → fourth_of a s n t ≡ d
fourth_plain a b c d s p q n m t es ep eq en em et = rw (et, en, em, es, ep, eq) (omega (arith, ints))
