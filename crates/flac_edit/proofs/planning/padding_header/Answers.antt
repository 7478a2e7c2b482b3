use Rattle.std.proofs.Common.{ap, ◌∙◌, nat_lt}
use Rattle.std.proofs.lemmas.Result.{IfOk-weaker}
use Rattle.flac_bits.specs.Bits.{bits_of}
use Rattle.flac_bits.specs.Written.{Written}
use Rattle.flac_meta.specs.Spelling.{header_spelling}
use Rattle.flac_edit.proofs.Collecting.{Blank, collected, many}
use Rattle.flac_edit.proofs.Spelled.{length-header}
use Rattle.flac_edit.proofs.planning.padding_header.Goals as goal

pub returns-in-Ok-clause-spelled : goal.returns-in-Ok-clause-spelled
returns-in-Ok-clause-spelled c =
    let blank : Blank c.new-writer.result = record {
      known = ap (λ (v : Written). v.known) c.new-writer.ensures ∙ ap (λ e. nat_lt e 18446744073709551615) c.new.ensures.errors;
      bits = ap (λ (v : Written). v.bits) c.new-writer.ensures ∙ ap bits_of c.new.ensures.sent;
      unread = ap (λ (v : Written). v.mark.unread) c.new-writer.ensures;
    } in
    collected c.new-writer.result _ (header_spelling c.args.last 1 c.args.size) 4 c.into_bytes.result blank (length-header c.args.last 1 c.args.size) c.in-Ok.ensures c.into_bytes.ensures.bytes

pub returns-in-Ok-clause-long : goal.returns-in-Ok-clause-long
returns-in-Ok-clause-long c =
    let blank : Blank c.new-writer.result = record {
      known = ap (λ (v : Written). v.known) c.new-writer.ensures ∙ ap (λ e. nat_lt e 18446744073709551615) c.new.ensures.errors;
      bits = ap (λ (v : Written). v.bits) c.new-writer.ensures ∙ ap bits_of c.new.ensures.sent;
      unread = ap (λ (v : Written). v.mark.unread) c.new-writer.ensures;
    } in
    let spelled = collected c.new-writer.result _ (header_spelling c.args.last 1 c.args.size) 4 c.into_bytes.result blank (length-header c.args.last 1 c.args.size) c.in-Ok.ensures c.into_bytes.ensures.bytes in
    IfOk-weaker c.into_bytes.result _ _ (λ v is. many (header_spelling c.args.last 1 c.args.size) 4 v.items (length-header c.args.last 1 c.args.size) is) spelled
