use Rattle.std.proofs.Common.{rules}
use Rattle.flac_bits.proofs.writer.BitWriter.put_signed.Goals as goal

pub returns : goal.returns
returns g c = search rules
