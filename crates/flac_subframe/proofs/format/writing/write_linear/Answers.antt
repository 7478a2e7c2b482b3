use Rattle.std.proofs.Common.{arith, ℤ, List, ap, ◌++◌, ◌-◌, length, take, flat_map}
use Rattle.std.proofs.lemmas.List.{length-take}
use Rattle.std.proofs.lemmas.Result.{err_from_is_err_and}
use Rattle.flac_bits.specs.Signed.{signed}
use Rattle.flac_bits.proofs.Writing.{writes_then, fails_first}
use Rattle.flac_subframe.specs.format.Bodies.{residual_of, differences}
use Rattle.flac_subframe.specs.format.inner.Cost.{codings_lent}
use Rattle.flac_subframe.specs.format.Handed.{coefficients_in, handed}
use Rattle.flac_subframe.specs.format.Spelling.{predictor_spelling, residual_spelling}
use Rattle.flac_subframe.proofs.lemmas.format.WriteSteps.{linear_text}
use Rattle.flac_subframe.proofs.format.writing.write_linear.Goals as goal

pub take_left-requires-clause-places : goal.take_left-requires-clause-places
take_left-requires-clause-places g c =
    omega (arith, c.order-order.ensures.value, ap (λ (x : List ℤ). length x) c.coefficients.ensures.value, c.requires.predicts.room, length-take (length c.args.samples.now - c.order-order.result) c.args.values.now)

pub write_rest-requires-clause-may : goal.write_rest-requires-clause-may
write_rest-requires-clause-may g c =
    let all = rw (c.coefficients.ensures.value, c.shift.ensures.value) at c.take_left.ensures.all in
    rw all c.requires.predicts.written

pub write_rest-requires-clause-range : goal.write_rest-requires-clause-range
write_rest-requires-clause-range g c =
    let all = rw (c.coefficients.ensures.value, c.shift.ensures.value) at c.take_left.ensures.all in
    rw all c.requires.predicts.range

pub returns-in_err-write_signed : goal.returns-in_err-write_signed
returns-in_err-write_signed g c =
    let q = c.args.predictor.now in
    let cs = coefficients_in q in
    let s = c.args.samples.now in
    let r = residual_of (length cs) (differences cs q.shift s) (codings_lent c.args.choice.now) in
    let p = err_from_is_err_and c.from_residual.result c.from_residual.ensures.1 in
    let warm = rw c.order-order.ensures.value at c.in_err-write_signed.ensures in
    rw (p.1, p.2, linear_text c.args.depth (take (length cs) s) (handed q) r) (fails_first (flat_map (signed c.args.depth) (take (length cs) s)) (predictor_spelling (handed q) ++ residual_spelling r) warm)

pub returns : goal.returns
returns g c =
    let q = c.args.predictor.now in
    let cs = coefficients_in q in
    let s = c.args.samples.now in
    let r = residual_of (length cs) (differences cs q.shift s) (codings_lent c.args.choice.now) in
    let all = rw (c.coefficients.ensures.value, c.shift.ensures.value) at c.take_left.ensures.all in
    let warm = rw c.order-order.ensures.value at c.in_ok-write_signed.ensures in
    let rest = rw all at c.write_rest.ensures in
    rw (linear_text c.args.depth (take (length cs) s) (handed q) r) (writes_then (predictor_spelling (handed q) ++ residual_spelling r) c.write_rest.new.writer c.write_rest.result warm rest)
