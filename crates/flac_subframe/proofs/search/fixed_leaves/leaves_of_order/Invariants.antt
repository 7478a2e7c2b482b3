use Rattle.flac_subframe.specs.format.Bodies.{differences}
use Rattle.flac_subframe.specs.format.Prediction.{fixed_coefficients}
use Rattle.flac_subframe.proofs.lemmas.search.Pieces.{LeavesTo}
use Rattle.flac_subframe.proofs.search.fixed_leaves.leaves_of_order.Given as goal

abbrev pub invariant-loop-j : goal.invariant-loop-j
invariant-loop-j l = LeavesTo l.order l.partition_order (differences (fixed_coefficients l.order) 0 l.samples) l.count l.j l.bound l.widths l.sums
