use Rattle.std.proofs.Common.{ℕ, Option, Some, None, inl, ap, ◌∙◌}
use Rattle.flac_bits.specs.Reasons.{number_of}
use Rattle.flac_bits.specs.declared.why.Why.{Why}
use Rattle.flac_meta.specs.declared.seek_table.SeekPoint.{SeekPoint}
use Rattle.flac_native.specs.Item.{fault_pair}
use Rattle.flac_c.specs.Starts.{at_point, point_from}
use Rattle.flac_c.specs.declared.cursor.FlacProvedCursor.{FlacProvedCursor}
use Rattle.flac_c.specs.declared.metadata.Metadata.{Metadata}
use Rattle.flac_c.specs.declared.fault.FlacProvedFault.{FlacProvedFault}
use Rattle.flac_c.proofs.StreamStarts.{start_refused}
use Rattle.flac_c.proofs.starting.flac_proved_seek.Goals as goal

pub returns-in-Err-clause-streams : goal.returns-in-Err-clause-streams
returns-in-Err-clause-streams c = λ profile items stream.
    inl (ap (λ (r : FlacProvedFault). r.number) c.in_c-in-Err.ensures.value ∙ ap (λ (w : Why). number_of w) (start_refused profile c.args.bytes.now items stream c.in-Err.refusal (c.in-Err.ensures.refused profile)))

pub returns-in-Ok-clause-before : goal.returns-in-Ok-clause-before
returns-in-Ok-clause-before c = λ zero profile.
    let r = c.in-Ok.ensures.read profile in
    let same = ap (λ (m : Metadata). m.sample) c.new-found.ensures in
    let point = r.5.1 ∙ ap (λ (s : ℕ). point_from s None r.0) same in
    let is = c.at_point.ensures ∙ ap (λ (p : Option SeekPoint). at_point p c.in-Ok.first) point ∙ ap (λ (k : FlacProvedCursor). at_point (point_from c.args.sample None r.0) k) r.5.0 in
    (r.0, r.1, r.2, r.3, r.4, is)

pub returns-in-Err-clause-refused : goal.returns-in-Err-clause-refused
returns-in-Err-clause-refused c = λ other profile. (Some (fault_pair c.in-Err.refusal), c.in-Err.ensures.refused profile, c.in_c-in-Err.ensures.value)
