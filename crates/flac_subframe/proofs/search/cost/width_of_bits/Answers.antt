use Rattle.std.proofs.Common.{arith}
use Rattle.flac_subframe.proofs.lemmas.format.Digits.{digits_least}
use Rattle.flac_subframe.proofs.search.cost.width_of_bits.Goals as goal

pub returns-clause-least : goal.returns-clause-least
returns-clause-least c = λ n. digits_least 32 c.args.bits n (omega arith)
