use Rattle.std.proofs.Common.{arith}
use Rattle.flac_subframe.proofs.search.pruning.reaches.Goals as goal

pub bound_parts-close-requires-clause-widths : goal.bound_parts-close-requires-clause-widths
bound_parts-close-requires-clause-widths c = λ p j low high b. c.requires.widths p j (omega arith) high b
