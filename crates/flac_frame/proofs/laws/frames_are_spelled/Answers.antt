use Rattle.flac_frame.proofs.FrameTie.{frames_spelled, frames_again, frames_bytes}
use Rattle.flac_frame.proofs.laws.frames_are_spelled.Goals as goal

pub returns : goal.returns
returns c = record { spelled = frames_spelled; again = frames_again; bytes = frames_bytes }
