use Rattle.flac_bits.proofs.Words.{at_top_clean, at_top_bits}
use Rattle.flac_bits.proofs.word.Word.of_bits.Goals as goal

pub invariant_of-result : goal.invariant_of-result
invariant_of-result c = (c.requires.few, at_top_clean c.args.value c.args.n c.requires.few c.requires.small)

pub returns : goal.returns
returns c = at_top_bits c.args.value c.args.n c.requires.few c.requires.small
