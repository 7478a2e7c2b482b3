use Rattle.std.proofs.lemmas.Result.{err_from_is_err_and}
use Rattle.flac_cli.proofs.Printed.{printed_more, not_printed, all_printed, first_printed}
use Rattle.flac_cli.proofs.list.write_sheet.Goals as goal

pub loop-track-init : goal.loop-track-init
loop-track-init g c = first_printed g.W.Target c.in_ok-put_parts.ensures

pub loop-track-preserved : goal.loop-track-preserved
loop-track-preserved g c = printed_more g.W.Target c.loop-track.invariant c.in_ok-write_track.ensures

pub returns-in_err-write_track : goal.returns-in_err-write_track
returns-in_err-write_track g c =
    let p = err_from_is_err_and c.from_residual-in_err-write_track.result c.from_residual-in_err-write_track.ensures.1 in
    rw p.1 (not_printed g.W.Target c.loop-track.invariant c.in_err-write_track.ensures)

pub returns : goal.returns
returns g c = all_printed g.W.Target c.loop-track.invariant
