use Rattle.std.proofs.Common.{rules, arith, ◌≡◌, ◌<◌, ◌↔◌, ◌&&◌, Bool, true, false, IsTrue, length, get_or, ℤ, pos, to_z, of_z, w64, FitsSigned}
use Rattle.std.proofs.lemmas.Int.{ints}
use Rattle.std.proofs.lemmas.List.{take_all}
use Rattle.flac_bits.specs.Rice.{IsResidual}
use Rattle.flac_subframe.proofs.lemmas.format.Digits.{All_step}
use Rattle.flac_subframe.proofs.format.leaving.are_residual.Goals as goal

both : (a b : Bool) → (IsTrue (a && b) ↔ (IsTrue a × IsTrue b))
both true true = (λ h. (h, h), λ h. h.0)
both true false = (λ h. absurd cc, λ h. h.1)
both false b = (λ h. absurd cc, λ h. h.0)

pub loop-value-preserved : goal.loop-value-preserved
loop-value-preserved c =
    let i = c.loop-value.value-index in
    let xs = c.args.values.now in
    let within : i < length xs = c.loop-value-test.true in
    let step = All_step IsResidual xs i (pos 0) within in
    let was = c.loop-value.invariant in
    let one = c.is_residual-all.ensures in
    let x : ℤ = get_or xs i (pos 0) in
    let fit : FitsSigned w64 x = search rules in
    let same : to_z w64 (of_z w64 x) ≡ x = omega (arith, ints, fit) in
    let one' : IsTrue c.is_residual-all.result ↔ IsResidual x = rw same at one in
    let two : IsTrue (c.loop-value.all && c.is_residual-all.result) ↔ (IsTrue c.loop-value.all × IsTrue c.is_residual-all.result) = both c.loop-value.all c.is_residual-all.result in
    (λ h. let t = two.0 h in step.1 (was.0 t.0, one'.0 t.1), λ all. let t = step.0 all in two.1 (was.1 t.0, one'.1 t.1))

pub returns : goal.returns
returns c =
    let i = c.loop-value.value-index in
    let xs = c.args.values.now in
    rw (take_all i xs c.loop-value-test.false) at c.loop-value.invariant
