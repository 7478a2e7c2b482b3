use Rattle.flac_frame.proofs.PlainFamily.{frame_family_with_plain}
use Rattle.flac_frame.proofs.laws.frame_family_with_is_plain.Goals as goal

pub returns : goal.returns
returns c = frame_family_with_plain
