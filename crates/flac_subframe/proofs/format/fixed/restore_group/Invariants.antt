use Rattle.flac_subframe.proofs.lemmas.format.RunningSums.{Group}
use Rattle.flac_subframe.proofs.format.fixed.restore_group.Given as goal

abbrev pub invariant-loop-i : goal.invariant-loop-i
invariant-loop-i l = Group l.order l.bits l.fn.samples l.samples l.at l.i l.wrong l.value l.slope l.bend l.twist
