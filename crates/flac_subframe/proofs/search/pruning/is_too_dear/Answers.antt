use Rattle.std.proofs.Common.{arith}
use Rattle.flac_subframe.proofs.search.pruning.is_too_dear.Goals as goal

pub returns-then-rough-below-clause-dear : goal.returns-then-rough-below-clause-dear
returns-then-rough-below-clause-dear c = λ yes f m. omega (arith, c.requires.beside f m, c.if-rough-below.true)

pub reaches-requires-clause-widths : goal.reaches-requires-clause-widths
reaches-requires-clause-widths c = c.widen.ensures.widths

pub returns-clause-widths : goal.returns-clause-widths
returns-clause-widths c = λ no. c.widen.ensures.widths
