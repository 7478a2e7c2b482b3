use Rattle.flac_bits.proofs.Dividing.{first_of_four}
use Rattle.flac_bits.proofs.crc_32_division.first_four.Goals as goal

pub returns : goal.returns
returns c = λ p lt. first_of_four c.args.check c.args.bytes.now p lt
