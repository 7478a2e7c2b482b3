use Rattle.std.proofs.Common.{Some, inl, inr, refl, ap, ◌∙◌}
use Rattle.flac_bits.specs.Reasons.{number_of}
use Rattle.flac_bits.specs.declared.why.Why.{Why}
use Rattle.flac_native.specs.declared.fault.Place.TheVariants.{Frame}
use Rattle.flac_c.specs.declared.fault.FlacProvedFault.{FlacProvedFault}
use Rattle.flac_c.proofs.finding.pass_by.Goals as goal

pub returns-in-Ok-clause-streams : goal.returns-in-Ok-clause-streams
returns-in-Ok-clause-streams c = λ front frames s. inr (refl, c.in-Ok.ensures.further)

pub returns-in-Err-clause-streams : goal.returns-in-Err-clause-streams
returns-in-Err-clause-streams c = λ front frames s. inl (ap (λ (r : FlacProvedFault). r.number) c.in_c-in-Err.ensures.value ∙ ap (λ (w : Why). number_of w) (c.in-Err.ensures.memory front frames s))

pub returns-in-Err-clause-refused : goal.returns-in-Err-clause-refused
returns-in-Err-clause-refused c = λ other.
    let at = c.pass_frames.new.cursor in
    let r = c.in-Err.ensures.refused in
    (Some (Frame at.frames, c.in-Err.why), (r.0, at, r.1, (c.in-Err.why, refl, r.2)), c.in_c-in-Err.ensures.value)
