use Rattle.std.proofs.Common.{◌≡◌, ℤ, pos, get_or, w32, FitsSigned, arith, rules}
use Rattle.std.specs.Int.RustNames.{unsigned_abs}
use Rattle.std.proofs.lemmas.Bool.{ltb-true}
use Rattle.std.proofs.lemmas.Int.{to_z-of_z}
use Rattle.std.proofs.lemmas.List.{take_all}
use Rattle.std.proofs.lemmas.List.Sums.{sum_by_more}
use Rattle.flac_subframe.proofs.lemmas.format.Bounds.{abs_from_bits_15}
use Rattle.flac_subframe.proofs.format.products.are_small.Goals as goal

pub loop-coefficient-preserved : goal.loop-coefficient-preserved
loop-coefficient-preserved c =
    let cs = c.args.coefficients.now in let i = c.loop-coefficient.coefficient-index in
    let x : ℤ = get_or cs i (pos 0) in
    let fit : FitsSigned w32 x = search rules in
    let value : c.unsigned_abs.result ≡ unsigned_abs x = rw (to_z-of_z w32 x fit) at c.unsigned_abs.ensures.value in
    let small = abs_from_bits_15 x (c.requires.small i (pos 0) c.loop-coefficient-test.true) in
    let next = sum_by_more unsigned_abs cs i (pos 0) c.loop-coefficient-test.true in
    record {
      sum = omega (arith, next, value, c.from-sum.ensures, c.loop-coefficient.invariant.sum);
      small = omega (arith, small, value, c.from-sum.ensures, c.loop-coefficient.invariant.small);
    }

pub returns : goal.returns
returns c = λ t.
    let sum = rw (take_all c.loop-coefficient.coefficient-index c.args.coefficients.now c.loop-coefficient-test.false) at c.loop-coefficient.invariant.sum in
    rw (← sum, ← c.from.ensures) (ltb-true _ _ t)
