use Rattle.flac_edit.proofs.WholeStreams.{streams_stay}
use Rattle.flac_edit.proofs.laws.streams_stay.Goals as goal

pub returns : goal.returns
returns c = streams_stay
