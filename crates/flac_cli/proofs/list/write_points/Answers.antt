use Rattle.std.proofs.lemmas.Result.{err_from_is_err_and}
use Rattle.flac_cli.proofs.Printed.{printed_more, not_printed, all_printed, none_printed}
use Rattle.flac_cli.proofs.list.write_points.Goals as goal

pub loop-point-init : goal.loop-point-init
loop-point-init g c = none_printed g.W.Target c.args.lines.now.target

pub loop-point-preserved : goal.loop-point-preserved
loop-point-preserved g c = printed_more g.W.Target c.loop-point.invariant c.in_ok-write_point.ensures

pub returns-in_err-write_point : goal.returns-in_err-write_point
returns-in_err-write_point g c =
    let p = err_from_is_err_and c.from_residual.result c.from_residual.ensures.1 in
    rw p.1 (not_printed g.W.Target c.loop-point.invariant c.in_err-write_point.ensures)

pub returns : goal.returns
returns g c = all_printed g.W.Target c.loop-point.invariant
