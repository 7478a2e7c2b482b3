use Rattle.flac_frame.proofs.Encodings.{encodings_are_frames}
use Rattle.flac_frame.proofs.laws.encodings_are_frames.Goals as goal

pub returns : goal.returns
returns c = encodings_are_frames
