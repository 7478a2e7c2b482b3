-- For proofs of restoration: the last samples, from the nearest of them and its differences, and what a group of samples
-- becomes.
use Rattle.std.specs.Prelude.{ℕ, ℤ, ◌≡◌, ◌<◌, ◌≤◌, ◌+ℤ◌, ◌-ℤ◌, Bool, List, All, IsTrue}
use Rattle.flac_bits.specs.Signed.{FitsBits}
use Rattle.flac_subframe.specs.format.Numbers.{sample_at}
use Rattle.flac_subframe.specs.format.Prediction.{prediction, Restored}

abbrev pub second_of : ℤ → ℤ → ℤ
second_of value slope = value -ℤ slope

abbrev pub third_of : ℤ → ℤ → ℤ → ℤ
third_of value slope bend = ((value -ℤ slope) -ℤ slope) +ℤ bend

abbrev pub fourth_of : ℤ → ℤ → ℤ → ℤ → ℤ
fourth_of value slope bend twist = ((((((value -ℤ slope) -ℤ slope) -ℤ slope) +ℤ bend) +ℤ bend) +ℤ bend) -ℤ twist

-- the samples from one index up to another are restored from the residual in their places, and no other has changed
pub record RestoredFrom (cs : List ℤ) (shift : ℕ) (old new : List ℤ) (start end : ℕ) : Type 0 where
  pub before : (k : ℕ) → k < start → sample_at new k ≡ sample_at old k
  pub later : (k : ℕ) → start ≤ k → k < end → sample_at new k ≡ prediction cs shift new k +ℤ sample_at old k
  pub rest : (k : ℕ) → end ≤ k → sample_at new k ≡ sample_at old k

-- if there are samples that are so restored and all fit, the call says so
abbrev pub MustFit : ℕ → List ℤ → ℕ → List ℤ → Bool → Type 0
MustFit bits cs shift r result = (s : List ℤ) → Restored cs shift r s → All (FitsBits bits) s → IsTrue result
