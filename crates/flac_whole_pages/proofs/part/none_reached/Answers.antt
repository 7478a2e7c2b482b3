use Rattle.flac_whole_pages.proofs.Parts.{none_reached}
use Rattle.flac_whole_pages.proofs.part.none_reached.Goals as goal

pub returns : goal.returns
returns c = none_reached
