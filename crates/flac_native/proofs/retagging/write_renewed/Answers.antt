use Rattle.std.proofs.Common.{◌≡◌, sym, ◌∙◌}
use Rattle.std.proofs.lemmas.Result.{err_from_is_err_and}
use Rattle.flac_meta.specs.declared.block.Block.TheVariants as block_of
use Rattle.flac_native.proofs.BlocksWritten.{nil_is}
use Rattle.flac_native.proofs.Renewing.{was_written, head_added, all_added, first_may, marker_failed, first_failed, note_failed, others_failed}
use Rattle.flac_native.proofs.Unread.{never_read, never_sink}
use Rattle.flac_native.proofs.retagging.write_renewed.Goals as goal

pub returns-clause-added : goal.returns-clause-added
returns-clause-added g c =
    let first = c.in_ok-write_block.ensures in
    let note = c.in_ok-write_comments.ensures in
    head_added c.args.comments.now c.in-Some.info.now c.in-Some.others.now c.args.kept.now c.is_empty.result _ _ _ _ _ c.write_each.result c.in-Some.ensures.cases.0 (c.is_empty.ensures ∙ sym (nil_is c.in-Some.others.now))
    c.in_ok-put.ensures
    (was_written (c.write_block.new.writer ≡ c.put.new.self) c.in-Some.info.now _ c.in_ok-write_block.field-0 first.refused first.writes)
    (was_written (c.write_comments.new.writer ≡ c.write_block.new.writer) (block_of.VorbisComment c.args.comments.now) _ c.in_ok-write_comments.field-0 note.refused note.writes)
    (all_added c.in-Some.others.now _ _ c.write_each.result c.write_each.ensures.written)

pub returns-clause-failed : goal.returns-clause-failed
returns-clause-failed g c =
    let first = c.in_ok-write_block.ensures in
    let note = c.in_ok-write_comments.ensures in
    others_failed c.args.comments.now c.in-Some.info.now c.in-Some.others.now c.args.kept.now c.in-Some.ensures.cases.0 c.is_empty.result _ _ _ _ _ c.write_each.result (c.is_empty.ensures ∙ sym (nil_is c.in-Some.others.now))
    c.in_ok-put.ensures
    (was_written (c.write_block.new.writer ≡ c.put.new.self) c.in-Some.info.now _ c.in_ok-write_block.field-0 first.refused first.writes)
    (was_written (c.write_comments.new.writer ≡ c.write_block.new.writer) (block_of.VorbisComment c.args.comments.now) _ c.in_ok-write_comments.field-0 note.refused note.writes)
    c.write_each.ensures.failed

pub returns-in_err-put-clause-failed : goal.returns-in_err-put-clause-failed
returns-in_err-put-clause-failed g c =
    let p = err_from_is_err_and c.from_residual.result c.from_residual.ensures.1 in
    rw (p.1, p.2) (λ may. marker_failed c.args.comments.now c.in-Some.info.now c.in-Some.others.now c.args.kept.now c.in-Some.ensures.cases.0 _ _ _ c.in_err-put.ensures)

pub returns-in_err-write_block-clause-failed : goal.returns-in_err-write_block-clause-failed
returns-in_err-write_block-clause-failed g c =
    let p = err_from_is_err_and c.from_residual-in_err-write_block.result c.from_residual-in_err-write_block.ensures.1 in
    let is = c.in-Some.ensures.cases.0 in
    rw (p.1, p.2) (λ may. first_failed c.args.comments.now c.in-Some.info.now c.in-Some.others.now c.args.kept.now is _ _ _ _ c.in_ok-put.ensures
    (c.in_err-write_block.ensures.writes (first_may c.args.comments.now c.in-Some.info.now c.in-Some.others.now c.args.kept.now is may)))

pub returns-in_err-write_comments-clause-failed : goal.returns-in_err-write_comments-clause-failed
returns-in_err-write_comments-clause-failed g c =
    let p = err_from_is_err_and c.from_residual-in_err-write_comments.result c.from_residual-in_err-write_comments.ensures.1 in
    let first = c.in_ok-write_block.ensures in
    rw (p.1, p.2) (λ may. note_failed c.args.comments.now c.in-Some.info.now c.in-Some.others.now c.args.kept.now c.in-Some.ensures.cases.0 c.is_empty.result _ _ _ _ _ (c.is_empty.ensures ∙ sym (nil_is c.in-Some.others.now))
    c.in_ok-put.ensures
    (was_written (c.write_block.new.writer ≡ c.put.new.self) c.in-Some.info.now _ c.in_ok-write_block.field-0 first.refused first.writes)
    (c.in_err-write_comments.ensures.writes may.note))

pub returns-in_err-write_block-clause-unread : goal.returns-in_err-write_block-clause-unread
returns-in_err-write_block-clause-unread g c =
    let p = err_from_is_err_and c.from_residual-in_err-write_block.result c.from_residual-in_err-write_block.ensures.1 in
    rw (p.1, p.2) (never_read _ c.in-Some.info.now _ _ _ c.in_err-write_block.ensures.refused c.in_err-write_block.ensures.writes (λ f. f.reason))

pub returns-in_err-write_comments-clause-unread : goal.returns-in_err-write_comments-clause-unread
returns-in_err-write_comments-clause-unread g c =
    let p = err_from_is_err_and c.from_residual-in_err-write_comments.result c.from_residual-in_err-write_comments.ensures.1 in
    rw (p.1, p.2) (never_read _ (block_of.VorbisComment c.args.comments.now) _ _ _ c.in_err-write_comments.ensures.refused c.in_err-write_comments.ensures.writes (λ f. f.reason))

pub returns-in_err-write_block-clause-sink : goal.returns-in_err-write_block-clause-sink
returns-in_err-write_block-clause-sink g c =
    let p = err_from_is_err_and c.from_residual-in_err-write_block.result c.from_residual-in_err-write_block.ensures.1 in
    rw (p.1, p.2) (never_sink _ c.in-Some.info.now _ _ _ c.in_err-write_block.ensures.refused c.in_err-write_block.ensures.writes (λ f. f.reason))

pub returns-in_err-write_comments-clause-sink : goal.returns-in_err-write_comments-clause-sink
returns-in_err-write_comments-clause-sink g c =
    let p = err_from_is_err_and c.from_residual-in_err-write_comments.result c.from_residual-in_err-write_comments.ensures.1 in
    rw (p.1, p.2) (never_sink _ (block_of.VorbisComment c.args.comments.now) _ _ _ c.in_err-write_comments.ensures.refused c.in_err-write_comments.ensures.writes (λ f. f.reason))
