use Rattle.flac_bits.specs.Handing.{outcome_of}
use Rattle.flac_native.specs.Item.{fault_pair}
use Rattle.flac_c.proofs.verifying.flac_proved_verify.Goals as goal

pub returns-clause-verified : goal.returns-clause-verified
returns-clause-verified c = (outcome_of fault_pair c.verify.result, c.verify.ensures.verifies, c.in_c.ensures.value)
