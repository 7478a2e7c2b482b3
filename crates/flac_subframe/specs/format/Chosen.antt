-- The body that a choice of the code names.
use Rattle.std.specs.Prelude.{ℕ, ℤ, List, ◌++◌, take, length, map, ◌<◌, ◌≤◌}
use Rattle.std.specs.List.{range_with_len}
use Rattle.flac_subframe.specs.format.Cost.{Codings}
use Rattle.flac_subframe.specs.declared.format.content.ContentKind.{ContentKind}
use Rattle.flac_subframe.specs.declared.format.content.ContentKind.TheVariants.{Constant, Verbatim, Predicted}
use Rattle.flac_subframe.specs.declared.format.content.PredictorKind.{PredictorKind}
use Rattle.flac_subframe.specs.declared.format.content.PredictorKind.TheVariants.{Fixed, Linear}
use Rattle.flac_subframe.specs.declared.format.linear.LinearPredictor.{LinearPredictor}
use Rattle.flac_subframe.specs.format.Handed.{predictor_of, handed_at}
use Rattle.flac_subframe.specs.format.Numbers.{sample_at}
use Rattle.flac_subframe.specs.format.Bodies.{Chooses, fixed, coefficients_of, shift_of, Body, constant, verbatim, predicted, differences}

-- the fixed predictors of the orders below n
abbrev pub fixed_below : ℕ → List Chooses
fixed_below n = map fixed (range_with_len 0 n)

-- the fixed predictors of the orders 0 to 4, and after them the linear ones of the caller's list
abbrev pub offered : List LinearPredictor → List Chooses
offered ps = fixed_below 5 ++ map predictor_of ps

-- the body of a predictor under codings
abbrev pub body_under : Chooses → Codings → List ℤ → Body
body_under p f s = predicted p (take (length (coefficients_of p)) s) f (differences (coefficients_of p) (shift_of p) s)

-- the predictor of a kind; a linear one is from the list
abbrev pub predictor_named : List LinearPredictor → PredictorKind → Chooses
predictor_named ps (Fixed order) = fixed order
predictor_named ps (Linear index) = handed_at ps index

-- there is such a predictor
abbrev pub IsNamed : List LinearPredictor → PredictorKind → Type 0
IsNamed ps (Fixed order) = order ≤ 4
IsNamed ps (Linear index) = index < length ps

-- the body of a content under the codings of its residual; a linear predictor is from the list
abbrev pub body_as : List LinearPredictor → ContentKind → Codings → List ℤ → Body
body_as ps Constant f s = constant (sample_at s 0)
body_as ps Verbatim f s = verbatim s
body_as ps (Predicted kind) f s = body_under (predictor_named ps kind) f s

-- there is the predictor of a content, if it has one
abbrev pub HasPredictor : List LinearPredictor → ContentKind → Type 0
HasPredictor ps Constant = Unit {0}
HasPredictor ps Verbatim = Unit {0}
HasPredictor ps (Predicted kind) = IsNamed ps kind
