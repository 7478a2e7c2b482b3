use Rattle.flac_subframe.proofs.lemmas.format.HeaderTie.{subframes_spelled}
use Rattle.flac_subframe.proofs.format.laws.subframes_are_spelled.Goals as goal

pub returns : goal.returns
returns c = subframes_spelled
