use Rattle.std.proofs.lemmas.Result.{err_from_is_err_and}
use Rattle.flac_cli.proofs.Printed.{printed_more, not_printed, printed_then, none_printed, added_prints}
use Rattle.flac_cli.proofs.lines.Lines.put_parts.Goals as goal

pub loop-part-init : goal.loop-part-init
loop-part-init g c = none_printed g.W.Target c.args.self.now.target

pub loop-part-preserved : goal.loop-part-preserved
loop-part-preserved g c = printed_more g.W.Target c.loop-part.invariant c.in_ok-put_part.ensures

pub returns-in_err-put_part : goal.returns-in_err-put_part
returns-in_err-put_part g c =
    let p = err_from_is_err_and c.from_residual.result c.from_residual.ensures.1 in
    rw p.1 (not_printed g.W.Target c.loop-part.invariant c.in_err-put_part.ensures)

pub returns : goal.returns
returns g c = printed_then g.W.Target _ c.loop-part.invariant (added_prints g.W.Target _ c.put.ensures)
