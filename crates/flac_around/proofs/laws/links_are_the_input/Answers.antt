use Rattle.flac_around.proofs.ChainLaws.{joined, alone, whole_first}
use Rattle.flac_around.proofs.laws.links_are_the_input.Goals as goal

pub returns : goal.returns
returns c = record { joined = joined; alone = alone; first = whole_first }
