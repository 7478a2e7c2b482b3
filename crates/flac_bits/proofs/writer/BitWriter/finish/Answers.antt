use Rattle.std.proofs.Common.{rules}
use Rattle.flac_bits.proofs.writer.BitWriter.finish.Goals as goal

pub returns-clause-whole : goal.returns-clause-whole
returns-clause-whole g c = search rules
