use Rattle.std.proofs.Common.{rules}
use Rattle.flac_native.proofs.decoder.Decoder+BitReader+R.into_source.Goals as goal

pub returns-clause-known : goal.returns-clause-known
returns-clause-known g c = search rules

pub returns-clause-errors : goal.returns-clause-errors
returns-clause-errors g c = search rules
