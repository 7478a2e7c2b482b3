use Rattle.std.proofs.Common.{arith}
use Rattle.flac_subframe.proofs.search.cost.weigh_any.Goals as goal

pub rice_bits-requires-clause-bounded : goal.rice_bits-requires-clause-bounded
rice_bits-requires-clause-bounded c = (c.width-width.ensures.least c.width-width.result).1 (omega arith)
