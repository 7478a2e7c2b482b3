-- What a predictor leaves.
use Rattle.std.proofs.Common.{◌≡◌, ◌∙◌, refl, sym, ap, ℕ, zero, suc, ◌+◌, ◌^◌, ◌≤◌, ◌<◌, arith, ℤ, pos, ◌-ℤ◌, List, length, take, to_z, of_z, w64, replicate}
use Rattle.std.specs.Int.RustNames.{unsigned_abs}
use Rattle.std.proofs.lemmas.Int.{ints}
use Rattle.std.proofs.lemmas.List.{same_lists, get_or-replicate, length-replicate, get_or_default}
use Rattle.flac_bits.specs.Signed.{FitsBits}
use Rattle.flac_subframe.specs.format.Numbers.{sample_at}
use Rattle.flac_subframe.specs.format.Prediction.{prediction, fixed_coefficients}
use Rattle.flac_subframe.specs.format.Bodies.{difference}
use Rattle.flac_subframe.proofs.lemmas.format.Restoring.{of_front}

-- how many coefficients a fixed predictor has
pub length-fixed : (order : ℕ) → order ≤ 4 → length (fixed_coefficients order) ≡ order
length-fixed zero h = refl
length-fixed (suc zero) h = refl
length-fixed (suc (suc zero)) h = refl
length-fixed (suc (suc (suc zero))) h = refl
length-fixed (suc (suc (suc (suc zero)))) h = refl
length-fixed (suc (suc (suc (suc (suc n))))) h = absurd (omega arith)

-- the difference as the code has it
pub difference_at : (order : ℕ) (s : List ℤ) (j : ℕ) (p : ℤ) → order ≤ 4 → FitsBits 33 (sample_at s (order + j)) → p ≡ prediction (fixed_coefficients order) 0 s (order + j) → unsigned_abs p ≤ 2 ^ 51 →
    to_z w64 (of_z w64 (to_z w64 (of_z w64 (sample_at s (order + j))) -ℤ to_z w64 (of_z w64 p))) ≡ difference (fixed_coefficients order) 0 s j
unfolding difference
difference_at order s j p few fit is small =
    rw (length-fixed order few, ← is) (omega (arith, ints, fit.low, fit.high))

-- the same of any predictor, whose prediction is of the samples in front
pub difference_is : (cs : List ℤ) (shift : ℕ) (s : List ℤ) (j : ℕ) (p : ℤ) → length cs + j ≤ length s → FitsBits 33 (sample_at s (length cs + j)) → p ≡ prediction cs shift (take (length cs + j) s) (length (take (length cs + j) s)) → unsigned_abs p ≤ 2 ^ 51 →
    to_z w64 (of_z w64 (to_z w64 (of_z w64 (sample_at s (length cs + j))) -ℤ to_z w64 (of_z w64 p))) ≡ difference cs shift s j
unfolding difference
difference_is cs shift s j p within fit is small =
    rw (← of_front cs shift s (length cs + j) (omega arith) within, ← is) (omega (arith, ints, fit.low, fit.high))

pub all_first : (s : List ℤ) → ((k : ℕ) → k < length s → sample_at s k ≡ sample_at s 0) → s ≡ replicate (length s) (sample_at s 0)
all_first s all = same_lists s (replicate (length s) (sample_at s 0)) (sym (length-replicate (length s) (sample_at s 0))) (λ k d h.
    get_or_default s k d (pos 0) h ∙ all k h ∙ sym (get_or-replicate (length s) k (sample_at s 0) d h))

pub first_all : (s : List ℤ) (v : ℤ) → s ≡ replicate (length s) v → (k : ℕ) → k < length s → sample_at s k ≡ v
first_all s v e k h = ap (λ (t : List ℤ). sample_at t k) e ∙ get_or-replicate (length s) k v (pos 0) h
