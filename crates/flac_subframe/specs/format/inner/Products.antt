-- For proofs of restoration: the sums of a linear predictor, made one product after another for all samples (RFC 9639,
-- section 9.2.6).
use Rattle.std.specs.Prelude.{ℕ, ℤ, ◌≡◌, ◌+◌, ◌<◌, ◌*ℤ◌, ◌-ℤ◌, List, length, take}
use Rattle.std.specs.Int.{int_shr}
use Rattle.std.specs.Int.RustNames.{unsigned_abs}
use Rattle.flac_subframe.specs.format.Numbers.{sample_at}
use Rattle.flac_subframe.specs.format.Prediction.{weighted}

-- each is the sum of the first k products for the sample at its index after the warm-up samples
abbrev pub HasSums : ℕ → List ℤ → List ℤ → List ℤ → Type 0
HasSums k cs s sums = (j : ℕ) → j < length sums → sample_at sums j ≡ weighted (take k cs) s (length cs + j)

-- no product, no sum of the first products, and no difference between a sample and a sum reaches a limit
pub record StayBelow (limit : ℕ) (cs s : List ℤ) : Type 0 where
  pub products : (k i : ℕ) → unsigned_abs (sample_at cs k *ℤ sample_at s i) < limit
  pub sums : (k i j : ℕ) → unsigned_abs (sample_at s j) + unsigned_abs (weighted (take k cs) s i) < limit

-- what is left of the samples after the first ones, by sums in the places of what is left
abbrev pub AreLeft : ℕ → List ℤ → ℕ → List ℤ → List ℤ → Type 0
AreLeft order s shift sums values = (j : ℕ) → j < length sums → sample_at values j ≡ sample_at s (order + j) -ℤ int_shr (sample_at sums j) shift

-- a sample and its sum together stay below a limit
abbrev pub AreApart : ℕ → ℕ → List ℤ → List ℤ → Type 0
AreApart limit order s sums = (j : ℕ) → j < length sums → unsigned_abs (sample_at s (order + j)) + unsigned_abs (sample_at sums j) < limit
