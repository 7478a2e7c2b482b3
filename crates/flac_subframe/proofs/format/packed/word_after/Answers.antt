use Rattle.flac_subframe.proofs.lemmas.format.Packing.{after_is}
use Rattle.flac_subframe.proofs.format.packed.word_after.Goals as goal

pub returns : goal.returns
returns c = λ high low small is. after_is c.args.first high low _ c.ranges.first c.cast_unsigned.ensures small is
