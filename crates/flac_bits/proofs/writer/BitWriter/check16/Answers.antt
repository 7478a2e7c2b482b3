use Rattle.std.proofs.Common.{rules}
use Rattle.flac_bits.proofs.writer.BitWriter.check16.Goals as goal

pub returns : goal.returns
returns g c = search rules
