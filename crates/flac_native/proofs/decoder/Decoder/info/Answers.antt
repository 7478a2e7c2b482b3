use Rattle.std.proofs.Common.{rules}
use Rattle.flac_native.proofs.decoder.Decoder.info.Goals as goal

pub returns-in-Some : goal.returns-in-Some
returns-in-Some g c = search rules
