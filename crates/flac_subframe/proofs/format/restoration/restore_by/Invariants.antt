use Rattle.std.proofs.Common.{◌≡◌, ◌-◌}
use Rattle.flac_subframe.specs.format.Numbers.{sample_at}
use Rattle.flac_subframe.proofs.lemmas.format.Restoring.{RestoredTo}
use Rattle.flac_subframe.proofs.format.restoration.restore_by.Given as goal

abbrev pub invariant-loop-i : goal.invariant-loop-i
invariant-loop-i l = record {
  so : RestoredTo l.coefficients l.shift l.bits l.fn.samples l.samples l.i;
  near : l.near ≡ sample_at l.samples (l.i - 1);
}
