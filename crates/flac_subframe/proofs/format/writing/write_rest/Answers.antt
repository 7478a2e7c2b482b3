use Rattle.std.proofs.Common.{length}
use Rattle.std.proofs.lemmas.Result.{err_from_is_err_and}
use Rattle.flac_bits.proofs.Writing.{writes_then, fails_first}
use Rattle.flac_subframe.specs.format.Bodies.{residual_of}
use Rattle.flac_subframe.specs.format.inner.Cost.{codings_lent}
use Rattle.flac_subframe.specs.format.Handed.{coefficients_in, handed}
use Rattle.flac_subframe.specs.format.Spelling.{predictor_spelling, residual_spelling}
use Rattle.flac_subframe.proofs.format.writing.write_rest.Goals as goal

pub write_residual-requires-clause-may : goal.write_residual-requires-clause-may
write_residual-requires-clause-may g c = rw c.order.ensures.value c.requires.may

pub returns-in_err-write_predictor : goal.returns-in_err-write_predictor
returns-in_err-write_predictor g c =
    let q = c.args.predictor.now in
    let r = residual_of (length (coefficients_in q)) c.args.values.now (codings_lent c.args.choice.now) in
    let p = err_from_is_err_and c.from_residual.result c.from_residual.ensures.1 in
    rw (p.1, p.2) (fails_first (predictor_spelling (handed q)) (residual_spelling r) c.in_err-write_predictor.ensures)

pub returns : goal.returns
returns g c =
    let q = c.args.predictor.now in
    let r = residual_of (length (coefficients_in q)) c.args.values.now (codings_lent c.args.choice.now) in
    writes_then (residual_spelling r) c.write_residual.new.writer c.write_residual.result c.in_ok-write_predictor.ensures (rw c.order.ensures.value at c.write_residual.ensures)
