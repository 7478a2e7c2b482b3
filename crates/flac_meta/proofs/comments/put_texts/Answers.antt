use Rattle.std.proofs.Common.{◌+◌, drop}
use Rattle.std.proofs.lemmas.Result.{err_from_is_err_and}
use Rattle.flac_bits.proofs.Writing.{towards_more, towards_end, towards_fail}
use Rattle.flac_meta.specs.Spelling as s
use Rattle.flac_meta.proofs.Steps.{each_step, each_end}
use Rattle.flac_meta.proofs.Lengths as lengths
use Rattle.std.proofs.Common.{arith}
use Rattle.flac_meta.proofs.comments.put_texts.Goals as goal

pub returns-in_err-put_little_sized : goal.returns-in_err-put_little_sized
returns-in_err-put_little_sized g c =
    let p = err_from_is_err_and c.from_residual.result c.from_residual.ensures.1 in
    let xs = c.args.texts.now in
    let i = c.loop-text.text-index in
    rw (p.1, p.2) (towards_fail (s.little_sized c.text-item.result) (s.each_spelled s.little_sized (drop (i + 1) xs)) (each_step s.little_sized xs i c.text-item.result c.loop-text-test.true c.text-item.is) c.loop-text.invariant.1 (rw c.as_slice.ensures at c.in_err-put_little_sized.ensures))

pub loop-text-preserved : goal.loop-text-preserved
loop-text-preserved g c =
    let xs = c.args.texts.now in
    let i = c.loop-text.text-index in
    (let e = lengths.texts_step xs i c.text-item.result c.loop-text-test.true c.text-item.is in omega (arith, e), towards_more (s.each_spelled s.little_sized (drop (i + 1) xs)) (each_step s.little_sized xs i c.text-item.result c.loop-text-test.true c.text-item.is) c.loop-text.invariant.1 (rw c.as_slice.ensures at c.in_ok-put_little_sized.ensures))

pub returns : goal.returns
returns g c = towards_end (each_end s.little_sized c.args.texts.now c.loop-text.text-index c.loop-text-test.false) c.loop-text.invariant.1
