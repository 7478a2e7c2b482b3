use Rattle.std.proofs.Common.{Some, inl, inr, refl, ap, ◌∙◌}
use Rattle.flac_bits.specs.Reasons.{number_of}
use Rattle.flac_bits.specs.declared.why.Why.{Why}
use Rattle.flac_native.specs.Item.{fault_pair}
use Rattle.flac_c.specs.declared.fault.FlacProvedFault.{FlacProvedFault}
use Rattle.flac_c.proofs.StreamStarts.{starts_in, start_refused}
use Rattle.flac_c.proofs.starting.flac_proved_start.Goals as goal

pub returns-in-Ok-clause-streams : goal.returns-in-Ok-clause-streams
returns-in-Ok-clause-streams c = λ profile items stream.
    let r = c.in-Ok.ensures.read profile in
    inr (refl, starts_in profile c.args.bytes.now items stream c.in-Ok.first (r.0, r.1, r.2, r.3, r.4, r.5.0))

pub returns-in-Err-clause-streams : goal.returns-in-Err-clause-streams
returns-in-Err-clause-streams c = λ profile items stream.
    inl (ap (λ (r : FlacProvedFault). r.number) c.in_c-in-Err.ensures.value ∙ ap (λ (w : Why). number_of w) (start_refused profile c.args.bytes.now items stream c.in-Err.refusal (c.in-Err.ensures.refused profile)))

pub returns-in-Ok-clause-first : goal.returns-in-Ok-clause-first
returns-in-Ok-clause-first c = λ zero profile. let r = c.in-Ok.ensures.read profile in (r.0, r.1, r.2, r.3, r.4, r.5.0)

pub returns-in-Err-clause-refused : goal.returns-in-Err-clause-refused
returns-in-Err-clause-refused c = λ other profile. (Some (fault_pair c.in-Err.refusal), c.in-Err.ensures.refused profile, c.in_c-in-Err.ensures.value)
