use Rattle.flac_subframe.proofs.lemmas.format.Scaling.{ScaledTo}
use Rattle.flac_subframe.proofs.format.subframe.scale.Given as goal

abbrev pub invariant-loop-place : goal.invariant-loop-place
invariant-loop-place l = ScaledTo l.fn.wasted l.fn.samples l.samples l.place-index
