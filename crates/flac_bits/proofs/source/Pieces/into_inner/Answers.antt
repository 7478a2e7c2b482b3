use Rattle.std.proofs.Common.{rules}
use Rattle.flac_bits.proofs.source.Pieces.into_inner.Goals as goal

pub returns : goal.returns
returns g c = search rules
