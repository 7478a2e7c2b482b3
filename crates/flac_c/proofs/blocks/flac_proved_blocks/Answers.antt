use Rattle.std.proofs.Common.{List, Some, inl, ap, ◌∙◌, subst}
use Rattle.flac_bits.specs.Reasons.{number_of}
use Rattle.flac_bits.specs.declared.why.Why.{Why}
use Rattle.flac_native.specs.Item.{fault_pair}
use Rattle.flac_c.specs.Answers.{IsCopied}
use Rattle.flac_c.specs.declared.blocks.FlacProvedBlock.{FlacProvedBlock}
use Rattle.flac_c.specs.declared.fault.FlacProvedFault.{FlacProvedFault}
use Rattle.flac_c.proofs.StreamStarts.{start_refused}
use Rattle.flac_c.proofs.blocks.flac_proved_blocks.Goals as goal

pub returns-in-Ok-clause-listed : goal.returns-in-Ok-clause-listed
returns-in-Ok-clause-listed c = λ zero profile.
    (c.list_blocks.new.list.items, c.in-Ok.ensures.read profile, subst (λ (l : List FlacProvedBlock). IsCopied l c.args.out.now c.copy.new.out c.copy.result) c.as_slice.ensures.value c.copy.ensures)

pub returns-clause-streams : goal.returns-clause-streams
returns-clause-streams c = λ profile items stream.
    inl (ap (λ (r : FlacProvedFault). r.number) c.in_c-in-Err.ensures.value ∙ ap (λ (w : Why). number_of w) (start_refused profile c.args.bytes.now items stream c.in-Err.refusal (c.in-Err.ensures.refused profile)))

pub returns-clause-refused : goal.returns-clause-refused
returns-clause-refused c = λ other profile. (Some (fault_pair c.in-Err.refusal), c.in-Err.ensures.refused profile, c.in_c-in-Err.ensures.value)
