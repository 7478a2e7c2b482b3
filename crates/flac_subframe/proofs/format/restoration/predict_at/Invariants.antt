use Rattle.std.proofs.Common.{◌≡◌, ◌*◌, ◌+◌, ◌-◌, ◌≤◌, ◌^◌, drop, ◌+ℤ◌}
use Rattle.std.specs.Int.RustNames.{unsigned_abs}
use Rattle.flac_subframe.specs.format.Prediction.{weighted}
use Rattle.flac_subframe.proofs.format.restoration.predict_at.Given as goal

abbrev pub invariant-loop-j : goal.invariant-loop-j
invariant-loop-j l = record {
  rest : l.sum +ℤ weighted (drop l.j l.coefficients) l.samples (l.at - l.j) ≡ weighted (drop 1 l.coefficients) l.samples (l.at - 1);
  small : unsigned_abs l.sum + 2 ^ 46 ≤ 2 ^ 46 * l.j;
}
