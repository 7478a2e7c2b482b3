use Rattle.std.proofs.Common.{rules}
use Rattle.flac_header.proofs.frame_header.FrameHeader.size.Goals as goal

pub returns-clause-size : goal.returns-clause-size
returns-clause-size c = search rules
