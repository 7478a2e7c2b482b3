use Rattle.std.proofs.Common.{sym}
use Rattle.flac_frame.proofs.Subframes.{length-chunks}
use Rattle.flac_frame.proofs.view.FrameView.channels.Goals as goal

pub returns : goal.returns
returns c = sym (length-chunks _ _ _)
