use Rattle.flac_frame.proofs.Following.{accepted_follow, frames_follow}
use Rattle.flac_frame.proofs.laws.frames_follow.Goals as goal

pub returns : goal.returns
returns c = record { headers = accepted_follow; frames = frames_follow }
