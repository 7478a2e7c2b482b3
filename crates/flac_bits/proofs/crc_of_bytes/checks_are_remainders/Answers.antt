use Rattle.flac_bits.proofs.Check.{check8_is, check16_is}
use Rattle.flac_bits.proofs.crc_of_bytes.checks_are_remainders.Goals as goal

pub returns : goal.returns
returns c = λ bits m none none16. (check8_is bits m none, check16_is bits m none16)
