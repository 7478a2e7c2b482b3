use Rattle.std.proofs.lemmas.Result.{err_from_is_err_and}
use Rattle.flac_cli.proofs.Printed.{printed_more, not_printed, all_printed, first_printed, added_prints}
use Rattle.flac_cli.proofs.lines.Lines.put_escaped.Goals as goal

pub loop-byte-init : goal.loop-byte-init
loop-byte-init g c = first_printed g.W.Target (added_prints g.W.Target _ c.in_ok-put.ensures)

pub loop-byte-preserved : goal.loop-byte-preserved
loop-byte-preserved g c = printed_more g.W.Target c.loop-byte.invariant c.in_ok-put_byte.ensures

pub returns-in_err-put_byte : goal.returns-in_err-put_byte
returns-in_err-put_byte g c =
    let p = err_from_is_err_and c.from_residual-in_err-put_byte.result c.from_residual-in_err-put_byte.ensures.1 in
    rw p.1 (not_printed g.W.Target c.loop-byte.invariant c.in_err-put_byte.ensures)

pub returns : goal.returns
returns g c = all_printed g.W.Target c.loop-byte.invariant
