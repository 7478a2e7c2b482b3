use Rattle.std.proofs.Common.{rules}
use Rattle.flac_bits.proofs.reader.BitReader.unread.Goals as goal

pub returns : goal.returns
returns g c = search rules
