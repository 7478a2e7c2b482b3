use Rattle.std.proofs.Common.{arith, ◌≡◌, ◌*◌, ◌/◌, ◌^◌, ◌≤◌, ℕ, ap, length}
use Rattle.std.specs.List.{sum_by}
use Rattle.std.proofs.lemmas.Nat.{mul-le}
use Rattle.flac_subframe.specs.format.inner.Cost.{value_cost}
use Rattle.flac_subframe.proofs.lemmas.search.LowerBounds.{rice_at_least}
use Rattle.flac_subframe.proofs.search.pruning.bound_any.Goals as goal

pub returns-clause-rice : goal.returns-clause-rice
returns-clause-rice c = λ k.
    let n : ℕ = length c.args.values.now in
    let t : ℕ = c.shift_to-shift.result in
    let q : ℕ = c.args.bits / 2 ^ t in
    let is : q ≡ sum_by (value_cost 0) c.args.values.now / 2 ^ t = ap (λ (m : ℕ). m / 2 ^ t) c.requires.bits in
    let same : n * c.from.result ≡ n * t = ap (λ (m : ℕ). n * m) c.from.ensures in
    omega (arith, same, rice_at_least c.args.values.now t q (omega arith) (omega arith) is k)

pub returns-clause-escape : goal.returns-clause-escape
returns-clause-escape c = λ n fit.
    let m : ℕ = length c.args.values.now in
    let less : c.args.width ≤ n = (c.requires.width n).0 fit in
    let a : c.from-2.result * m ≤ n * m = mul-le c.from-2.result m n m (omega (arith, c.from-2.ensures, less)) (omega arith) in
    omega (arith, a)
