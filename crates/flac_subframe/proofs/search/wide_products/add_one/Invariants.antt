use Rattle.std.proofs.Common.{◌+◌}
use Rattle.flac_subframe.proofs.lemmas.format.Lanes.{SumsTo}
use Rattle.flac_subframe.proofs.search.wide_products.add_one.Given as goal

abbrev pub invariant-loop-index : goal.invariant-loop-index
invariant-loop-index l = SumsTo l.done (l.done + 1) l.coefficients l.samples l.index l.sums
