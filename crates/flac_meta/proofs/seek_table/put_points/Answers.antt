use Rattle.std.proofs.Common.{◌+◌, drop, get_or}
use Rattle.std.proofs.lemmas.Result.{err_from_is_err_and}
use Rattle.flac_bits.proofs.Writing.{towards_more, towards_end, towards_fail}
use Rattle.flac_meta.specs.Spelling as s
use Rattle.flac_meta.proofs.Steps.{each_step_at, each_end}
use Rattle.flac_meta.proofs.seek_table.put_points.Goals as goal

pub returns-in_err-put_point : goal.returns-in_err-put_point
returns-in_err-put_point g c =
    let p = err_from_is_err_and c.from_residual.result c.from_residual.ensures.1 in
    let xs = c.args.points.now in
    let i = c.loop-point.point-index in
    rw (p.1, p.2) (towards_fail (s.point_spelling (get_or xs i (record { sample = 0; offset = 0; length = 0 }))) (s.each_spelled s.point_spelling (drop (i + 1) xs)) (each_step_at s.point_spelling xs i (record { sample = 0; offset = 0; length = 0 }) c.loop-point-test.true) c.loop-point.invariant c.in_err-put_point.ensures)

pub loop-point-preserved : goal.loop-point-preserved
loop-point-preserved g c =
    let xs = c.args.points.now in
    let i = c.loop-point.point-index in
    towards_more (s.each_spelled s.point_spelling (drop (i + 1) xs)) (each_step_at s.point_spelling xs i (record { sample = 0; offset = 0; length = 0 }) c.loop-point-test.true) c.loop-point.invariant c.in_ok-put_point.ensures

pub returns : goal.returns
returns g c = towards_end (each_end s.point_spelling c.args.points.now c.loop-point.point-index c.loop-point-test.false) c.loop-point.invariant
