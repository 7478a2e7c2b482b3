use Rattle.std.proofs.Common.{arith, ◌≡◌, ◌+◌, ◌*◌, ◌-◌, ℕ, flat_map, refl}
use Rattle.std.proofs.lemmas.Result.{err_from_is_err_and}
use Rattle.flac_bits.specs.Bits.{unsigned}
use Rattle.flac_bits.specs.Signed.{signed}
use Rattle.flac_bits.proofs.Writing.{writes_then, fails_first}
use Rattle.flac_subframe.specs.format.Handed.{coefficients_in, handed}
use Rattle.flac_subframe.proofs.lemmas.format.WriteSteps.{predictor_text}
use Rattle.flac_subframe.proofs.format.writing.write_predictor.Goals as goal

pub returns-in_err-put : goal.returns-in_err-put
returns-in_err-put g c =
    let q = c.args.predictor.now in
    let field : ℕ = (c.precision-precision.result - 1) * 32 + c.shift.result in
    let is : field ≡ (q.precision - 1) * 32 + q.shift = rw (c.precision-precision.ensures.value, c.shift.ensures.value) refl in
    let p = err_from_is_err_and c.from_residual.result c.from_residual.ensures.1 in
    rw (p.1, p.2, predictor_text (handed q) field (omega (arith, q.small_shift)) is) (fails_first (unsigned 9 field) (flat_map (signed q.precision) (coefficients_in q)) c.in_err-put.ensures)

pub returns : goal.returns
returns g c =
    let q = c.args.predictor.now in
    let field : ℕ = (c.precision-precision.result - 1) * 32 + c.shift.result in
    let is : field ≡ (q.precision - 1) * 32 + q.shift = rw (c.precision-precision.ensures.value, c.shift.ensures.value) refl in
    rw (predictor_text (handed q) field (omega (arith, q.small_shift)) is)
    (writes_then (flat_map (signed q.precision) (coefficients_in q)) c.write_coefficients.new.writer c.write_coefficients.result c.in_ok-put.ensures
    (rw (c.precision-precision.ensures.value, c.coefficients.ensures.value) at c.write_coefficients.ensures))
