use Rattle.flac_native.proofs.Whole as whole
use Rattle.flac_native.proofs.laws.streams_are_whole.Goals as goal

pub returns : goal.returns
returns c = whole.streams_are_whole
