use Rattle.std.proofs.Common.{◌+◌, ◌<◌, drop, length, flat_map, pos}
use Rattle.std.proofs.lemmas.Result.{err_from_is_err_and}
use Rattle.flac_bits.specs.Signed.{signed}
use Rattle.flac_bits.proofs.Writing.{towards_start, towards_more, towards_fail, towards_end}
use Rattle.flac_subframe.specs.format.Numbers.{sample_at}
use Rattle.flac_subframe.proofs.lemmas.format.Bounds.{back_33}
use Rattle.flac_subframe.proofs.lemmas.format.WriteSteps.{each_step, each_end, none_signed}
use Rattle.flac_subframe.proofs.format.writing.write_signed.Goals as goal

pub loop-value-preserved : goal.loop-value-preserved
loop-value-preserved g c =
    let i = c.loop-value.value-index in
    let xs = c.args.values.now in
    let n = c.args.n in
    let within : i < length xs = c.loop-value-test.true in
    let x = sample_at xs i in
    let same = back_33 x (c.requires.range i (pos 0) within) in
    towards_more (flat_map (signed n) (drop (i + 1) xs)) (each_step (signed n) xs i within) c.loop-value.invariant (rw same at c.in_ok-put_signed.ensures)

pub returns-in_err-put_signed : goal.returns-in_err-put_signed
returns-in_err-put_signed g c =
    let i = c.loop-value.value-index in
    let xs = c.args.values.now in
    let n = c.args.n in
    let within : i < length xs = c.loop-value-test.true in
    let x = sample_at xs i in
    let same = back_33 x (c.requires.range i (pos 0) within) in
    let p = err_from_is_err_and c.from_residual.result c.from_residual.ensures.1 in
    rw (p.1, p.2) (towards_fail (signed n x) (flat_map (signed n) (drop (i + 1) xs)) (each_step (signed n) xs i within) c.loop-value.invariant (rw same at c.in_err-put_signed.ensures))

pub returns : goal.returns
returns g c = towards_end (each_end (signed c.args.n) c.args.values.now c.loop-value.value-index c.loop-value-test.false) c.loop-value.invariant

pub returns-then-n-eq0 : goal.returns-then-n-eq0
returns-then-n-eq0 g c = rw (c.if-n-eq0.true) (towards_end (none_signed c.args.values.now) (towards_start (flat_map (signed 0) c.args.values.now) c.args.writer.now))
