use Rattle.flac_subframe.proofs.lemmas.format.Lanes.{LeftTo}
use Rattle.flac_subframe.proofs.format.products.leave.Given as goal

abbrev pub invariant-loop-index : goal.invariant-loop-index
invariant-loop-index l = LeftTo l.order l.shift l.samples l.initial.values l.index l.values l.folds
