use Rattle.flac_shelf.proofs.Paths.{paths_are_shown}
use Rattle.flac_shelf.proofs.laws.paths_are_shown.Goals as goal

pub returns : goal.returns
returns c = paths_are_shown
