use Rattle.std.proofs.Common.{rules}
use Rattle.flac_header.proofs.frame_header.FrameHeader.number.Goals as goal

pub returns-clause-number : goal.returns-clause-number
returns-clause-number c = search rules
