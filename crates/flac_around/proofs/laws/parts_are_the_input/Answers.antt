use Rattle.flac_around.proofs.Around.{joined, alone}
use Rattle.flac_around.proofs.laws.parts_are_the_input.Goals as goal

pub returns : goal.returns
returns c = record { joined = joined; alone = alone }
