use Rattle.std.proofs.Common.{◌≡◌, ◌<◌, ◌≤◌, ◌∙◌, arith, rules, refl, length, get_or, pos, ℤ, to_z, of_z, w32, w64, FitsSigned}
use Rattle.std.proofs.lemmas.Int.{to_z-of_z, ints}
use Rattle.std.proofs.lemmas.List.{take_all}
use Rattle.flac_bits.specs.Signed.{FitsBits}
use Rattle.flac_subframe.proofs.lemmas.format.Digits.{All_step}
use Rattle.flac_subframe.proofs.format.linear.all_fit.Goals as goal

twice : (z r : ℤ) → FitsSigned w32 z → r ≡ to_z w32 (of_z w32 z) → to_z w64 (of_z w64 r) ≡ z
twice z r f e = let a : r ≡ z = e ∙ to_z-of_z w32 z f in rw a (omega (arith, ints, f))

pub loop-coefficient-preserved : goal.loop-coefficient-preserved
loop-coefficient-preserved c =
    let i = c.loop-coefficient.coefficient-index in
    let cs = c.args.coefficients.now in
    let x : ℤ = get_or cs i (pos 0) in
    let f : FitsSigned w32 x = search rules in
    let e : to_z w64 (of_z w64 c.from.result) ≡ x = twice x c.from.result f c.from.ensures in
    let within : i < length cs = omega arith in
    (All_step (FitsBits c.args.precision) cs i (pos 0) within).1 (c.loop-coefficient.invariant, rw (e, c.from-in-loop-coefficient.ensures) at (c.fits_bits.ensures.0 c.if-not-fits_bits.false))

pub returns-then-not-fits_bits : goal.returns-then-not-fits_bits
returns-then-not-fits_bits c = (
  λ no. cc,
  λ all.
      let i = c.loop-coefficient.coefficient-index in
      let cs = c.args.coefficients.now in
      let x : ℤ = get_or cs i (pos 0) in
      let f : FitsSigned w32 x = search rules in
      let e : to_z w64 (of_z w64 c.from.result) ≡ x = twice x c.from.result f c.from.ensures in
      let within : i < length cs = omega arith in
      cc (c.fits_bits.ensures.1 (rw (e, c.from-in-loop-coefficient.ensures) (all i (pos 0) within)), c.if-not-fits_bits.true),
)

pub returns : goal.returns
returns c =
    let over : length c.args.coefficients.now ≤ c.loop-coefficient.coefficient-index = omega arith in
    (λ _. rw (take_all c.loop-coefficient.coefficient-index c.args.coefficients.now over) at c.loop-coefficient.invariant, λ _. refl)
