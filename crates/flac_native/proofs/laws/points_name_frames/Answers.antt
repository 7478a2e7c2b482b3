use Rattle.flac_native.proofs.Sought as sought
use Rattle.flac_native.proofs.laws.points_name_frames.Goals as goal

pub returns : goal.returns
returns c = sought.points_name_frames
