use Rattle.flac_frame.proofs.PlainFamily.{frame_planes_plain}
use Rattle.flac_frame.proofs.laws.frame_planes_is_plain.Goals as goal

pub returns : goal.returns
returns c = frame_planes_plain
