use Rattle.std.proofs.Common.{rules}
use Rattle.flac_header.proofs.frame_header.FrameHeader.variable.Goals as goal

pub returns : goal.returns
returns c = search rules
