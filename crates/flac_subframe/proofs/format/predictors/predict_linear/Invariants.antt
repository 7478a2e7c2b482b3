use Rattle.std.proofs.Common.{◌≡◌, ◌*◌, ◌+◌, ◌≤◌, ◌^◌, drop, length, ◌+ℤ◌}
use Rattle.std.specs.Int.RustNames.{unsigned_abs}
use Rattle.flac_subframe.specs.format.Prediction.{weighted}
use Rattle.flac_subframe.proofs.format.predictors.predict_linear.Given as goal

abbrev pub invariant-loop-coefficient : goal.invariant-loop-coefficient
invariant-loop-coefficient l = record {
  place : l.at + l.coefficient-index ≡ length l.samples;
  rest : l.sum +ℤ weighted (drop l.coefficient-index l.coefficients) l.samples l.at ≡ weighted l.coefficients l.samples (length l.samples);
  small : unsigned_abs l.sum ≤ 2 ^ 46 * l.coefficient-index;
}
