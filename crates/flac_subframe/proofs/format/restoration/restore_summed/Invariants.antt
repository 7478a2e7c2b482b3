use Rattle.flac_subframe.specs.format.inner.Summing.{AreSums, AreBelow}
use Rattle.flac_subframe.proofs.lemmas.format.Summing.{SumsOn}
use Rattle.flac_subframe.proofs.format.restoration.restore_summed.Given as goal

abbrev pub invariant-loop-i : goal.invariant-loop-i
invariant-loop-i l = record {
  sums : AreSums l.coefficients l.samples l.sums l.i;
  below : AreBelow l.order l.sums;
}

abbrev pub invariant-loop-i-2 : goal.invariant-loop-i-2
invariant-loop-i-2 l = SumsOn l.order l.coefficients l.shift l.bits l.fn.samples l.samples l.sums l.i
