use Rattle.std.proofs.lemmas.Result.{err_from_is_err_and}
use Rattle.flac_cli.proofs.Printed.{printed_more, not_printed, all_printed, first_printed}
use Rattle.flac_cli.proofs.list.write_comments.Goals as goal

pub loop-comment-init : goal.loop-comment-init
loop-comment-init g c = first_printed g.W.Target c.in_ok-put_parts.ensures

pub loop-comment-preserved : goal.loop-comment-preserved
loop-comment-preserved g c = printed_more g.W.Target c.loop-comment.invariant c.in_ok-put_parts-2.ensures

pub returns-in_err-put_parts-2 : goal.returns-in_err-put_parts-2
returns-in_err-put_parts-2 g c =
    let p = err_from_is_err_and c.from_residual-in_err-put_parts-2.result c.from_residual-in_err-put_parts-2.ensures.1 in
    rw p.1 (not_printed g.W.Target c.loop-comment.invariant c.in_err-put_parts-2.ensures)

pub returns : goal.returns
returns g c = all_printed g.W.Target c.loop-comment.invariant
