use Rattle.std.proofs.Common.{rules}
use Rattle.flac_bits.proofs.target.Collected.new.Goals as goal

pub returns-clause-errors : goal.returns-clause-errors
returns-clause-errors c = search rules
