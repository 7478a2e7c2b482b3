use Rattle.std.proofs.Common.{subst}
use Rattle.flac_bits.specs.Handing.{outcome_of}
use Rattle.flac_header.specs.declared.subset.Profile.{Profile}
use Rattle.flac_native.specs.Item.{fault_pair}
use Rattle.flac_ogg.specs.Verifying.{Verifies}
use Rattle.flac_c.proofs.verifying.flac_proved_verify_in.Goals as goal

pub returns-clause-verified : goal.returns-clause-verified
returns-clause-verified c =
    let outcome = outcome_of fault_pair c.verify.result in
    (outcome, subst (λ (k : Profile). Verifies k c.args.bytes.now outcome) c.profile_of.ensures c.verify.ensures.verifies, c.in_c.ensures.value)
