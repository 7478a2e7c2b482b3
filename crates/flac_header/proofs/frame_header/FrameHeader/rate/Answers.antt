use Rattle.std.proofs.Common.{rules}
use Rattle.flac_header.proofs.frame_header.FrameHeader.rate.Goals as goal

pub returns : goal.returns
returns c = search rules
