use Rattle.flac_subframe.proofs.lemmas.format.HeaderTie.{subframes_again}
use Rattle.flac_subframe.proofs.format.laws.subframes_are_read_again.Goals as goal

pub returns : goal.returns
returns c = subframes_again
