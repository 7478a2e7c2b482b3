use Rattle.std.proofs.Common.{ap, ◌∙◌, ◌+◌, nat_lt, false}
use Rattle.std.proofs.lemmas.Result.{IfOk-weaker}
use Rattle.flac_bits.specs.Bits.{bits_of}
use Rattle.flac_bits.specs.Written.{Written}
use Rattle.flac_meta.specs.Spelling.{block_spelling, comments_length}
use Rattle.flac_meta.specs.declared.block.Block.TheVariants as block_of
use Rattle.flac_edit.proofs.Collecting.{Blank, collected, many, no_fault}
use Rattle.flac_edit.proofs.Lengths.{length-comment_block}
use Rattle.flac_edit.proofs.planning.comments_block.Goals as goal

pub returns-in-Ok-clause-spelled : goal.returns-in-Ok-clause-spelled
returns-in-Ok-clause-spelled c =
    let comments = c.args.comments.now in
    let blank : Blank c.new-writer.result = record {
      known = ap (λ (v : Written). v.known) c.new-writer.ensures ∙ ap (λ e. nat_lt e 18446744073709551615) c.new.ensures.errors;
      bits = ap (λ (v : Written). v.bits) c.new-writer.ensures ∙ ap bits_of c.new.ensures.sent;
      unread = ap (λ (v : Written). v.mark.unread) c.new-writer.ensures;
    } in
    collected c.new-writer.result _ (block_spelling false (block_of.VorbisComment comments)) (4 + comments_length comments) c.into_bytes.result blank (length-comment_block false comments) (c.in-Ok.ensures.writes (no_fault comments c.requires)) c.into_bytes.ensures.bytes

pub returns-in-Ok-clause-long : goal.returns-in-Ok-clause-long
returns-in-Ok-clause-long c =
    let comments = c.args.comments.now in
    let blank : Blank c.new-writer.result = record {
      known = ap (λ (v : Written). v.known) c.new-writer.ensures ∙ ap (λ e. nat_lt e 18446744073709551615) c.new.ensures.errors;
      bits = ap (λ (v : Written). v.bits) c.new-writer.ensures ∙ ap bits_of c.new.ensures.sent;
      unread = ap (λ (v : Written). v.mark.unread) c.new-writer.ensures;
    } in
    let spelled = collected c.new-writer.result _ (block_spelling false (block_of.VorbisComment comments)) (4 + comments_length comments) c.into_bytes.result blank (length-comment_block false comments) (c.in-Ok.ensures.writes (no_fault comments c.requires)) c.into_bytes.ensures.bytes in
    IfOk-weaker c.into_bytes.result _ _ (λ v is. many (block_spelling false (block_of.VorbisComment comments)) (4 + comments_length comments) v.items (length-comment_block false comments) is) spelled
