use Rattle.std.proofs.Common.{rules}
use Rattle.flac_frame.proofs.view.FrameView.number.Goals as goal

pub returns : goal.returns
returns c = search rules
