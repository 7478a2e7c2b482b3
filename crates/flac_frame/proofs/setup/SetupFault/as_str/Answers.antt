use Rattle.std.proofs.Common.{rules}
use Rattle.flac_frame.proofs.setup.SetupFault.as_str.Goals as goal

pub returns-in-TooLong : goal.returns-in-TooLong
returns-in-TooLong c = search rules
