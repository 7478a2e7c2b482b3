-- What the fixed predictors say after four samples, as sums.
use Rattle.std.proofs.Common.{◌≡◌, ◌∙◌, ◌/◌, ◌^◌, ap, arith, ℤ, pos, negsuc, ◌+ℤ◌, ◌-ℤ◌, ◌*ℤ◌, List, [], ◌∷◌}
use Rattle.std.specs.Int.{int_shr}
use Rattle.std.proofs.lemmas.Int.{ints}
use Rattle.flac_subframe.specs.format.Prediction.{prediction, weighted, fixed_coefficients}

-- a shift by nothing
shift_none : (z : ℤ) → int_shr z 0 ≡ z
shift_none (pos a) = let e : a / 2 ^ 0 ≡ a = omega arith in ap pos e
shift_none (negsuc a) = let e : a / 2 ^ 0 ≡ a = omega arith in ap negsuc e

module _ (a b c d : ℤ) where
  last : List ℤ
  last = d ∷ c ∷ b ∷ a ∷ []

  pub no_terms : prediction (fixed_coefficients 0) 0 (d ∷ c ∷ b ∷ a ∷ []) 4 ≡ pos 0
  unfolding weighted
  no_terms = shift_none (pos 0)

  pub one_term : prediction (fixed_coefficients 1) 0 (d ∷ c ∷ b ∷ a ∷ []) 4 ≡ a
  unfolding weighted
  one_term = shift_none _ ∙ omega (arith, ints)

  pub two_terms : prediction (fixed_coefficients 2) 0 (d ∷ c ∷ b ∷ a ∷ []) 4 ≡ (pos 2 *ℤ a) -ℤ b
  unfolding weighted
  two_terms = shift_none _ ∙ omega (arith, ints)

  pub three_terms : prediction (fixed_coefficients 3) 0 (d ∷ c ∷ b ∷ a ∷ []) 4 ≡ (pos 3 *ℤ (a -ℤ b)) +ℤ c
  unfolding weighted
  three_terms = shift_none _ ∙ omega (arith, ints)

  pub four_terms : prediction (fixed_coefficients 4) 0 (d ∷ c ∷ b ∷ a ∷ []) 4 ≡ ((pos 4 *ℤ (a +ℤ c)) -ℤ (pos 6 *ℤ b)) -ℤ d
  unfolding weighted
  four_terms = shift_none _ ∙ omega (arith, ints)
