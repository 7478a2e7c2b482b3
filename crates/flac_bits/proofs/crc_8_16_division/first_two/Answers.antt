use Rattle.flac_bits.proofs.Dividing.{first_of_two}
use Rattle.flac_bits.proofs.crc_8_16_division.first_two.Goals as goal

pub returns : goal.returns
returns c = λ p lt. first_of_two c.args.register.now c.args.bytes.now p lt
