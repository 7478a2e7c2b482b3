use Rattle.std.proofs.Common.{rules}
use Rattle.flac_bits.proofs.source.Memory.new.Goals as goal

pub returns : goal.returns
returns c = search rules
