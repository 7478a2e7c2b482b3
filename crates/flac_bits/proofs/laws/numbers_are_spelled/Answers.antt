use Rattle.flac_bits.proofs.CodedTie.{numbers_spelled, numbers_again}
use Rattle.flac_bits.proofs.laws.numbers_are_spelled.Goals as goal

pub returns : goal.returns
returns c = record { spelled = numbers_spelled; again = numbers_again }
