use Rattle.std.proofs.Common.{rules}
use Rattle.flac_header.proofs.frame_header.FrameHeader.channel_code.Goals as goal

pub returns-clause-code : goal.returns-clause-code
returns-clause-code c = search rules
