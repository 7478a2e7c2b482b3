use Rattle.std.proofs.Common.{rules}
use Rattle.flac_reader.proofs.samples.Samples.into_reader.Goals as goal

pub returns : goal.returns
returns g c = search rules
