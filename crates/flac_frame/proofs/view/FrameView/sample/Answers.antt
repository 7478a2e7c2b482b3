use Rattle.std.proofs.Common.{rules}
use Rattle.flac_frame.proofs.view.FrameView.sample.Goals as goal

pub returns : goal.returns
returns c = search rules
