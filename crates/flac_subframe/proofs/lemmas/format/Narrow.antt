-- What the fixed predictors leave of samples of few bits is in the range of a residual.
use Rattle.std.proofs.Common.{inl, inr, refl, ℕ, zero, suc, ◌+◌, ◌-◌, ◌^◌, ◌≤◌, arith, ℤ, pos, ◌≡◌, ◌-ℤ◌, List, [], ◌∷◌, length, All, to_z, of_z, w32, w64, FitsSigned}
use Rattle.std.specs.List.{range_with_len}
use Rattle.std.specs.Int.RustNames.{unsigned_abs}
use Rattle.std.proofs.lemmas.Int.{ints}
use Rattle.std.proofs.lemmas.Bool.{cases_lt}
use Rattle.std.proofs.lemmas.List.Elements.{All-map}
use Rattle.std.proofs.Math.ListN.{get_or-eq_default}
use Rattle.flac_bits.specs.Signed.{FitsBits}
use Rattle.flac_bits.specs.Rice.{IsResidual}
use Rattle.flac_subframe.specs.format.Numbers.{sample_at}
use Rattle.flac_subframe.specs.format.Prediction.{prediction, fixed_coefficients}
use Rattle.flac_subframe.specs.format.Bodies.{difference, differences}
use Rattle.flac_subframe.proofs.lemmas.format.Differences.{length-fixed}
use Rattle.flac_subframe.proofs.lemmas.format.FixedSums.{no_terms, one_term, two_terms, three_terms, four_terms}
use Rattle.flac_subframe.proofs.lemmas.format.Nearest.{HoldsLast, predicted_after}

module _ (x a b c d : ℤ) (fx : FitsBits 27 x) (fa : FitsBits 27 a) (fb : FitsBits 27 b) (fc : FitsBits 27 c) (fd : FitsBits 27 d) where
  within : (o : ℕ) → o ≤ 4 → IsResidual (x -ℤ prediction (fixed_coefficients o) 0 (d ∷ c ∷ b ∷ a ∷ []) 4)
  within zero few = rw (no_terms a b c d) (record { low = omega (arith, ints, fx.low, fx.high); high = omega (arith, ints, fx.low, fx.high) })
  within (suc zero) few = rw (one_term a b c d) (record { low = omega (arith, ints, fx.low, fx.high, fa.low, fa.high); high = omega (arith, ints, fx.low, fx.high, fa.low, fa.high) })
  within (suc (suc zero)) few = rw (two_terms a b c d) (record { low = omega (arith, ints, fx.low, fx.high, fa.low, fa.high, fb.low, fb.high); high = omega (arith, ints, fx.low, fx.high, fa.low, fa.high, fb.low, fb.high) })
  within (suc (suc (suc zero))) few = rw (three_terms a b c d) (record { low = omega (arith, ints, fx.low, fx.high, fa.low, fa.high, fb.low, fb.high, fc.low, fc.high); high = omega (arith, ints, fx.low, fx.high, fa.low, fa.high, fb.low, fb.high, fc.low, fc.high) })
  within (suc (suc (suc (suc zero)))) few = rw (four_terms a b c d) (record { low = omega (arith, ints, fx.low, fx.high, fa.low, fa.high, fb.low, fb.high, fc.low, fc.high, fd.low, fd.high); high = omega (arith, ints, fx.low, fx.high, fa.low, fa.high, fb.low, fb.high, fc.low, fc.high, fd.low, fd.high) })
  within (suc (suc (suc (suc (suc n))))) few = absurd (omega arith)

module _ (o : ℕ) (s : List ℤ) (few : o ≤ 4) (fits : (k : ℕ) → FitsBits 27 (sample_at s k)) where
  one_narrow : (j : ℕ) → IsResidual (difference (fixed_coefficients o) 0 s j)
  unfolding difference
  one_narrow j =
      let i : ℕ = o + j in
      let last : HoldsLast o s i (sample_at s (i - 1)) (sample_at s (i - 2)) (sample_at s (i - 3)) (sample_at s (i - 4)) = record {
        one = λ h. refl;
        two = λ h. refl;
        three = λ h. refl;
        four = λ h. refl;
      } in
      let is = predicted_after o s i (sample_at s (i - 1)) (sample_at s (i - 2)) (sample_at s (i - 3)) (sample_at s (i - 4)) few (omega arith) last in
      rw (length-fixed o few, ← is) (within (sample_at s i) (sample_at s (i - 1)) (sample_at s (i - 2)) (sample_at s (i - 3)) (sample_at s (i - 4)) (fits i) (fits (i - 1)) (fits (i - 2)) (fits (i - 3)) (fits (i - 4)) o few)

pub narrow_differences : (o : ℕ) (s : List ℤ) → o ≤ 4 → All (FitsBits 27) s → All IsResidual (differences (fixed_coefficients o) 0 s)
narrow_differences o s few all =
    let zero_fits : FitsBits 27 (pos 0) = record { low = omega (arith, ints); high = omega (arith, ints) } in
    let fits : (k : ℕ) → FitsBits 27 (sample_at s k) = λ k. elim (cases_lt k (length s)) [ inl b ↦ all k (pos 0) b | inr b ↦ rw (get_or-eq_default s (pos 0) {n = k} b) zero_fits ] in
    All-map IsResidual (difference (fixed_coefficients o) 0 s) (range_with_len 0 (length s - length (fixed_coefficients o))) (λ k d h. one_narrow o s few fits _)

-- what casts to 32 bits and back leave of a narrow sample
pub narrow_is : (x : ℤ) → FitsBits 27 x → to_z w32 (of_z w32 (to_z w64 (of_z w64 x))) ≡ x
narrow_is x fit = omega (arith, ints, fit.low, fit.high)

pub narrow_fits : (x : ℤ) → FitsBits 27 x → FitsSigned w32 x
narrow_fits x fit =
    let low = fit.low in
    let high = fit.high in
    omega (arith, ints)

pub same_narrow : (x : ℤ) → FitsBits 27 x → to_z w32 (of_z w32 x) ≡ x
same_narrow x fit = omega (arith, ints, fit.low, fit.high)

-- the difference of narrow samples as the code has it
pub narrow_at : (order : ℕ) (s : List ℤ) (j : ℕ) (p : ℤ) → order ≤ 4 → FitsBits 27 (sample_at s (order + j)) → p ≡ prediction (fixed_coefficients order) 0 s (order + j) → unsigned_abs p ≤ 2 ^ 30 →
    to_z w32 (of_z w32 (to_z w32 (of_z w32 (sample_at s (order + j))) -ℤ to_z w32 (of_z w32 p))) ≡ difference (fixed_coefficients order) 0 s j
unfolding difference
narrow_at order s j p few fit is small =
    rw (length-fixed order few, ← is) (omega (arith, ints, fit.low, fit.high))

pub narrow_residual : (x p : ℤ) → FitsBits 27 x → unsigned_abs p ≤ 2 ^ 30 → IsResidual (to_z w32 (of_z w32 (to_z w32 (of_z w32 x) -ℤ to_z w32 (of_z w32 p))))
narrow_residual x p fit small = record { low = omega (arith, ints, fit.low, fit.high, small); high = omega (arith, ints, fit.low, fit.high, small) }
