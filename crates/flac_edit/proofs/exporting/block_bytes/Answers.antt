use Rattle.std.proofs.Common.{ap, ◌∙◌, nat_lt, false}
use Rattle.std.proofs.lemmas.Result.{IfOk-weaker}
use Rattle.flac_bits.specs.Bits.{bits_of}
use Rattle.flac_bits.specs.Written.{Written}
use Rattle.flac_meta.specs.Spelling.{block_spelling}
use Rattle.flac_native.proofs.Heads.{Blank, head_collected}
use Rattle.flac_native.proofs.Renewing.{was_written}
use Rattle.flac_native.proofs.WholeBytes.{block_whole}
use Rattle.flac_edit.proofs.BlockContents.{has_header}
use Rattle.flac_edit.proofs.exporting.block_bytes.Goals as goal

pub returns-in-Ok-clause-spelled : goal.returns-in-Ok-clause-spelled
returns-in-Ok-clause-spelled c =
    let blank : Blank c.new-writer.result = record {
      known = ap (λ (v : Written). v.known) c.new-writer.ensures ∙ ap (λ e. nat_lt e 18446744073709551615) c.new.ensures.errors;
      bits = ap (λ (v : Written). v.bits) c.new-writer.ensures ∙ ap bits_of c.new.ensures.sent;
      unread = ap (λ (v : Written). v.mark.unread) c.new-writer.ensures;
    } in
    let adds = was_written _ c.args.block.now _ _ c.in-Ok.ensures.refused c.in-Ok.ensures.writes in
    head_collected c.new-writer.result _ (block_spelling false c.args.block.now) c.into_bytes.result blank (block_whole false c.args.block.now).bytes adds c.into_bytes.ensures.bytes

pub returns-in-Ok-clause-long : goal.returns-in-Ok-clause-long
returns-in-Ok-clause-long c = IfOk-weaker c.into_bytes.result _ _ (λ v is. has_header c.args.block.now v.items is) (returns-in-Ok-clause-spelled c)
