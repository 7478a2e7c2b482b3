use Rattle.std.proofs.Common.{rules}
use Rattle.flac_bits.proofs.writer.BitWriter.into_target.Goals as goal

pub returns-clause-known : goal.returns-clause-known
returns-clause-known g c = search rules

pub returns-clause-sent : goal.returns-clause-sent
returns-clause-sent g c = search rules

pub returns-clause-errors : goal.returns-clause-errors
returns-clause-errors g c = search rules
