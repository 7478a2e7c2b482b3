use Rattle.std.proofs.Common.{ap, ◌∙◌, nat_lt}
use Rattle.std.proofs.lemmas.Result.{IfErr-weaker}
use Rattle.flac_bits.specs.Bits.{bits_of}
use Rattle.flac_bits.specs.Reasons.{of_output}
use Rattle.flac_bits.specs.Written.{Written}
use Rattle.flac_native.specs.inner.Retag.{new_head}
use Rattle.flac_native.proofs.Heads.{Blank, head_collected}
use Rattle.flac_native.proofs.Renewing.{new_head_whole}
use Rattle.flac_native.proofs.Unread.{in_memory_output}
use Rattle.flac_native.proofs.retagging.renewed.Goals as goal

pub returns-in-Ok-clause-head : goal.returns-in-Ok-clause-head
returns-in-Ok-clause-head c =
    let comments = c.args.comments.now in
    let kept = c.args.kept.now in
    let blank : Blank c.new-writer.result = record {
      known = ap (λ (v : Written). v.known) c.new-writer.ensures ∙ ap (λ e. nat_lt e 18446744073709551615) c.new.ensures.errors;
      bits = ap (λ (v : Written). v.bits) c.new-writer.ensures ∙ ap bits_of c.new.ensures.sent;
      unread = ap (λ (v : Written). v.mark.unread) c.new-writer.ensures;
    } in
    head_collected c.new-writer.result _ (new_head comments kept) c.into_bytes.result blank (new_head_whole comments kept).bytes c.in-Ok.ensures.added c.into_bytes.ensures.bytes

pub returns-in-Err-clause-memory : goal.returns-in-Err-clause-memory
returns-in-Err-clause-memory c = λ may. c.in_memory.ensures.target (c.in-Err.ensures.failed may).reason

pub returns-in-Err-clause-output : goal.returns-in-Err-clause-output
returns-in-Err-clause-output c = in_memory_output c.in-Err.why c.in_memory.result c.in_memory.ensures.target c.in_memory.ensures.others c.in-Err.ensures.sink

pub returns-in-Ok-clause-output : goal.returns-in-Ok-clause-output
returns-in-Ok-clause-output c = IfErr-weaker c.into_bytes.result _ _ (λ e is. ap of_output is) c.into_bytes.ensures.memory
