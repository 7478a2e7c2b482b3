-- The linear predictors of the caller's list.
use Rattle.std.specs.Prelude.{ℕ, ℤ, ◌≤◌, ◌<◌, List, length, take, map, slice_index_or, All}
use Rattle.flac_bits.specs.Signed.{FitsBits}
use Rattle.flac_subframe.specs.declared.format.linear.LinearPredictor.{LinearPredictor}
use Rattle.flac_subframe.specs.format.Bodies.{Chooses, fixed, linear}
use Rattle.flac_subframe.specs.format.Subframe.{Predictor}

-- its coefficients, the first ones of its places
abbrev pub coefficients_in : LinearPredictor → List ℤ
coefficients_in p = take p.order p.places

abbrev pub predictor_of : LinearPredictor → Chooses
predictor_of p = linear p.precision p.shift (coefficients_in p)

-- the one at an index of the list; past its end the fixed one of order 0
abbrev pub handed_at : List LinearPredictor → ℕ → Chooses
handed_at ps index = slice_index_or (map predictor_of ps) index (fixed 0)

-- the predictor that a subframe spells
abbrev pub handed : LinearPredictor → Predictor
handed p = record { precision = p.precision; shift = p.shift; coefficients = coefficients_in p }

-- the order of each is within a limit
abbrev pub AreWithin : ℕ → List LinearPredictor → Type 0
AreWithin limit ps = All (λ p. length (coefficients_in p) ≤ limit) ps

-- a predictor may have these coefficients: 1 to 32 of 1 to 15 bits, shifted by 0 to 15
abbrev pub IsPredictor : ℕ → ℕ → List ℤ → Type 0
IsPredictor precision shift cs = (1 ≤ precision) × (precision ≤ 15) × (shift ≤ 15) × (0 < length cs) × (length cs ≤ 32) × All (FitsBits precision) cs
