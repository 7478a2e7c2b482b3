use Rattle.std.proofs.Common.{rules}
use Rattle.flac_bits.proofs.why.Why.number.Goals as goal

pub returns : goal.returns
returns c = search rules
