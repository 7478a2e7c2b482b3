use Rattle.std.proofs.Common.{rules}
use Rattle.flac_bits.proofs.target.Collected.into_bytes.Goals as goal

pub returns : goal.returns
returns c = search rules
