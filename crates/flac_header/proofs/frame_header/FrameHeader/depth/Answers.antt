use Rattle.std.proofs.Common.{rules}
use Rattle.flac_header.proofs.frame_header.FrameHeader.depth.Goals as goal

pub returns-in-5-clause-depth : goal.returns-in-5-clause-depth
returns-in-5-clause-depth c = search rules
