use Rattle.std.proofs.Common.{rules}
use Rattle.flac_bits.proofs.writer.BitWriter.bytes_written.Goals as goal

pub returns : goal.returns
returns g c = search rules
