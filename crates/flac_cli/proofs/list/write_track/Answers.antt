use Rattle.std.proofs.lemmas.Result.{err_from_is_err_and}
use Rattle.flac_cli.proofs.Printed.{printed_more, not_printed, all_printed, first_printed}
use Rattle.flac_cli.proofs.list.write_track.Goals as goal

pub loop-index-init : goal.loop-index-init
loop-index-init g c = first_printed g.W.Target c.in_ok-write_track_line.ensures

pub loop-index-preserved : goal.loop-index-preserved
loop-index-preserved g c = printed_more g.W.Target c.loop-index.invariant c.in_ok-put_parts.ensures

pub returns-in_err-put_parts : goal.returns-in_err-put_parts
returns-in_err-put_parts g c =
    let p = err_from_is_err_and c.from_residual-in_err-put_parts.result c.from_residual-in_err-put_parts.ensures.1 in
    rw p.1 (not_printed g.W.Target c.loop-index.invariant c.in_err-put_parts.ensures)

pub returns : goal.returns
returns g c = all_printed g.W.Target c.loop-index.invariant
