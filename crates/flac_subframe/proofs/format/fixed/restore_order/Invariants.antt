use Rattle.std.proofs.Common.{◌≤◌, ◌-◌, length}
use Rattle.flac_subframe.specs.format.Prediction.{fixed_coefficients}
use Rattle.flac_subframe.proofs.lemmas.format.Restoring.{RestoredTo}
use Rattle.flac_subframe.proofs.format.fixed.restore_order.Given as goal

abbrev pub invariant-loop-at : goal.invariant-loop-at
invariant-loop-at l = record {
  so : RestoredTo (fixed_coefficients l.order) 0 l.bits l.fn.samples l.samples l.at;
  some : l.order ≤ l.at;
  within : l.at ≤ length l.samples;
}

abbrev pub decreases-loop-at : goal.decreases-loop-at
decreases-loop-at l = length l.samples - l.at
