use Rattle.std.proofs.Common.{arith, ◌≡◌, ◌+◌, ◌*◌, ◌/◌, ◌^◌, ℕ, refl, length, min}
use Rattle.flac_subframe.proofs.lemmas.search.DigitBounds.{digits_at_least}
use Rattle.flac_subframe.proofs.search.pruning.bound_by_digits.Goals as goal

pub returns : goal.returns
returns c = λ f m e.
    let r = c.args.residual.now in
    let p : ℕ = c.args.partition_order in
    let few : c.min.result ≡ min 5 ((length r.values.now + r.order) / 2 ^ p) = omega arith in
    let fields : c.power.result * (4 + c.min.result) ≡ 2 ^ p * (4 + min 5 ((length r.values.now + r.order) / 2 ^ p)) = rw (c.power.ensures, few) refl in
    omega (arith, fields, digits_at_least r.partition_order r.order p r.values.now r.folds.now c.args.digits r.unsigned r.range c.requires.sum f m e)
