use Rattle.std.proofs.Common.{◌+◌, drop, get_or}
use Rattle.std.proofs.lemmas.Result.{err_from_is_err_and}
use Rattle.flac_bits.proofs.Writing.{towards_more, towards_end, towards_fail}
use Rattle.flac_meta.specs.Spelling as s
use Rattle.flac_meta.proofs.Steps.{each_step_at, each_end}
use Rattle.flac_meta.proofs.cue_sheet.put_indices.Goals as goal

pub returns-in_err-put_index : goal.returns-in_err-put_index
returns-in_err-put_index g c =
    let p = err_from_is_err_and c.from_residual.result c.from_residual.ensures.1 in
    let xs = c.args.indices.now in
    let i = c.loop-index.index-index in
    rw (p.1, p.2) (towards_fail (s.index_spelling (get_or xs i (record { offset = 0; number = 0 }))) (s.each_spelled s.index_spelling (drop (i + 1) xs)) (each_step_at s.index_spelling xs i (record { offset = 0; number = 0 }) c.loop-index-test.true) c.loop-index.invariant c.in_err-put_index.ensures)

pub loop-index-preserved : goal.loop-index-preserved
loop-index-preserved g c =
    let xs = c.args.indices.now in
    let i = c.loop-index.index-index in
    towards_more (s.each_spelled s.index_spelling (drop (i + 1) xs)) (each_step_at s.index_spelling xs i (record { offset = 0; number = 0 }) c.loop-index-test.true) c.loop-index.invariant c.in_ok-put_index.ensures

pub returns : goal.returns
returns g c = towards_end (each_end s.index_spelling c.args.indices.now c.loop-index.index-index c.loop-index-test.false) c.loop-index.invariant
