use Rattle.std.proofs.Common.{◌≡◌, ◌≤◌, inl, inr, length, refl, ap, ◌∙◌, arith}
use Rattle.flac_bits.specs.Reasons.{number_of}
use Rattle.flac_bits.specs.declared.why.Why.{Why}
use Rattle.flac_bits.specs.declared.why.Why.TheVariants.{Memory}
use Rattle.flac_c.specs.declared.fault.FlacProvedFault.{FlacProvedFault}
use Rattle.flac_c.specs.Cursors.{info_from_c}
use Rattle.flac_native.proofs.FramesRead.{none_past}
use Rattle.flac_c.proofs.InStreams.{goes_on}
use Rattle.flac_c.proofs.stepping.next_by.Goals as goal

pub returns-then-cursor-bytes-clause-frames : goal.returns-then-cursor-bytes-clause-frames
returns-then-cursor-bytes-clause-frames c = λ rules f n there.
    let end : length c.args.bytes.now ≤ c.args.cursor.now.offset = omega arith in
    absurd (none_past c.args.profile (info_from_c c.args.cursor.now.info) c.args.bytes.now c.args.cursor.now.offset end f n there)

pub returns-then-cursor-bytes-clause-streams : goal.returns-then-cursor-bytes-clause-streams
returns-then-cursor-bytes-clause-streams c = goes_on c.args.profile c.args.bytes.now c.args.cursor.now c.args.cursor.now c.args.out.now c.args.out.now 0 0 (returns-then-cursor-bytes-clause-frames c)

pub returns-in-Ok-clause-given : goal.returns-in-Ok-clause-given
returns-in-Ok-clause-given c = λ zero. inr c.in-Ok.ensures.found

pub returns-in-Ok-clause-frames : goal.returns-in-Ok-clause-frames
returns-in-Ok-clause-frames c = λ rules f n there. elim (c.in-Ok.ensures.only rules f n there) [ inl bad ↦ absurd cc | inr over ↦ inr (refl, over) ]

pub returns-in-Ok-clause-streams : goal.returns-in-Ok-clause-streams
returns-in-Ok-clause-streams c = goes_on c.args.profile c.args.bytes.now c.args.cursor.now c.step_alone.new.cursor c.args.out.now c.step_alone.new.out c.in-Ok.count 0 (returns-in-Ok-clause-frames c)

pub returns-in-Err-clause-frames : goal.returns-in-Err-clause-frames
returns-in-Err-clause-frames c = λ rules f n there. elim (c.in-Err.ensures.only rules f n there) [
  | inl is ↦ let same : c.in-Err.why ≡ Memory = cc in inl (ap (λ (r : FlacProvedFault). r.number) c.in_c-in-Err.ensures.value ∙ ap (λ (w : Why). number_of w) same)
  | inr bad ↦ absurd bad
]

pub returns-in-Err-clause-streams : goal.returns-in-Err-clause-streams
returns-in-Err-clause-streams c = goes_on c.args.profile c.args.bytes.now c.args.cursor.now c.step_alone.new.cursor c.args.out.now c.step_alone.new.out c.args.len.now c.in_c-in-Err.result.number (returns-in-Err-clause-frames c)
