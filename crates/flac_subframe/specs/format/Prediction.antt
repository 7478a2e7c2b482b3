-- The prediction of a sample from the samples before it (RFC 9639, sections 9.2.5 and 9.2.6).
use Rattle.std.specs.Prelude.{ℕ, zero, suc, ℤ, pos, negsuc, ◌+ℤ◌, ◌*ℤ◌, ◌-◌, ◌<◌, ◌≤◌, ◌≡◌, List, [], ◌∷◌, ◌++◌, length, cond, nat_lt}
use Rattle.std.specs.Int.{int_shr}
use Rattle.flac_subframe.specs.format.Numbers.{sample_at}

-- The sum of products of the coefficients with the samples before index i, the nearest first (section 9.2.6).
unfoldable pub weighted : List ℤ → List ℤ → ℕ → ℤ
weighted [] s i = pos 0
weighted (c ∷ cs) s i = (c *ℤ sample_at s (i - 1)) +ℤ weighted cs s (i - 1)

-- The sum, shifted to the right and rounded down (section 9.2.6).
abbrev pub prediction : List ℤ → ℕ → List ℤ → ℕ → ℤ
prediction cs shift s i = int_shr (weighted cs s i) shift

-- The coefficients of the fixed predictors: 0, a, 2a - b, 3a - 3b + c and 4a - 6b + 4c - d (section 9.2.5).
abbrev pub fixed_coefficients : ℕ → List ℤ
fixed_coefficients zero = []
fixed_coefficients (suc zero) = pos 1 ∷ []
fixed_coefficients (suc (suc zero)) = pos 2 ∷ negsuc 0 ∷ []
fixed_coefficients (suc (suc (suc zero))) = pos 3 ∷ negsuc 2 ∷ pos 1 ∷ []
fixed_coefficients _ = pos 4 ∷ negsuc 5 ∷ pos 4 ∷ negsuc 0 ∷ []

-- s is what the predictor restores from r, the warm-up samples and after them the residual: each later sample is
-- its prediction plus its residual value (sections 9.2.5, 9.2.6).
pub record Restored (cs : List ℤ) (shift : ℕ) (r s : List ℤ) : Type 0 where
  pub long : length s ≡ length r
  pub warm_up : (k : ℕ) → k < length cs → sample_at s k ≡ sample_at r k
  pub later : (k : ℕ) → length cs ≤ k → k < length r → sample_at s k ≡ prediction cs shift s k +ℤ sample_at r k

-- The first n samples of the only list that is so restored.
unfoldable pub first_restored : List ℤ → ℕ → List ℤ → ℕ → List ℤ
first_restored cs shift r zero = []
first_restored cs shift r (suc n) =
    let s : List ℤ = first_restored cs shift r n in
    s ++ cond (nat_lt n (length cs)) (sample_at r n) (prediction cs shift s n +ℤ sample_at r n) ∷ []

unfoldable pub restored : List ℤ → ℕ → List ℤ → List ℤ
restored cs shift r = first_restored cs shift r (length r)
