use Rattle.std.proofs.Common.{rules}
use Rattle.flac_native.proofs.decoder.Decoder.step.Goals as goal

pub returns-in-Over : goal.returns-in-Over
returns-in-Over g c = search rules
