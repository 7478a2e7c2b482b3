use Rattle.std.proofs.Common.{rules}
use Rattle.flac_native.proofs.decoder.Decoder.into_container.Goals as goal

pub returns : goal.returns
returns g c = search rules
