use Rattle.flac_native.proofs.Onwards as onwards
use Rattle.flac_native.proofs.laws.frames_are_resumed.Goals as goal

pub returns : goal.returns
returns c = onwards.frames_are_resumed
