use Rattle.flac_subframe.proofs.lemmas.format.Packing.{plus_is}
use Rattle.flac_subframe.proofs.format.packed.plus.Goals as goal

pub returns : goal.returns
returns c = plus_is c.args.sum c.args.factor c.args.sample c.ranges.sum c.ranges.factor c.ranges.sample c.requires.product c.requires.sum
