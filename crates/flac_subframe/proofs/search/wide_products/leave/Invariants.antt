use Rattle.flac_subframe.proofs.lemmas.format.Lanes.{PartlyLeft}
use Rattle.flac_subframe.proofs.search.wide_products.leave.Given as goal

abbrev pub invariant-loop-index : goal.invariant-loop-index
invariant-loop-index l = PartlyLeft l.order l.shift l.samples l.initial.values l.index l.values
