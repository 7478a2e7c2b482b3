use Rattle.flac_subframe.proofs.lemmas.format.Packing.{pair_is}
use Rattle.flac_subframe.proofs.format.packed.pair.Goals as goal

pub returns : goal.returns
returns c = pair_is c.args.high c.args.low c.requires.high c.requires.low
