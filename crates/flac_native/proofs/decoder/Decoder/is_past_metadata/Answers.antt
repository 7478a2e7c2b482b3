use Rattle.std.proofs.Common.{rules}
use Rattle.flac_native.proofs.decoder.Decoder.is_past_metadata.Goals as goal

pub returns : goal.returns
returns g c = search rules
