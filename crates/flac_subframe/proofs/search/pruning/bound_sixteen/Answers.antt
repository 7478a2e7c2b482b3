use Rattle.std.proofs.Common.{arith, ◌≡◌, ◌/◌, ◌-◌, ◌^◌, ◌≤◌, ℕ, ℤ, List, ap, length}
use Rattle.std.specs.List.{sum_by}
use Rattle.std.specs.Int.Count.{count_leading_zeros}
use Rattle.flac_subframe.specs.format.inner.Cost.{value_cost}
use Rattle.flac_subframe.proofs.lemmas.search.LowerBounds.{rice_at_least}
use Rattle.flac_subframe.proofs.lemmas.search.Sixteen.{few_zeros, brought, one_each}
use Rattle.flac_subframe.proofs.search.pruning.bound_sixteen.Goals as goal

some : (rs : List ℤ) (n : ℕ) → length rs ≡ 16 → n ≡ sum_by (value_cost 0) rs → 16 ≤ n
some rs n long is = omega (arith, one_each rs, long, is)

pub overflow_sub-shift : goal.overflow_sub-shift
overflow_sub-shift c = few_zeros c.args.bits (some c.args.values.now c.args.bits c.requires.long c.requires.bits) (omega arith)

pub overflow_add-rice : goal.overflow_add-rice
overflow_add-rice c =
    let near = brought c.args.bits (some c.args.values.now c.args.bits c.requires.long c.requires.bits) (omega arith) in
    let t : c.from.result ≤ 59 = omega arith in
    omega (arith, near.1, t)

pub returns-clause-rice : goal.returns-clause-rice
returns-clause-rice c = λ k.
    let rs = c.args.values.now in
    let enough = some rs c.args.bits c.requires.long c.requires.bits in
    let t : ℕ = 59 - count_leading_zeros 64 c.args.bits in
    let q : ℕ = c.args.bits / 2 ^ t in
    let near = brought c.args.bits enough (omega arith) in
    let is : q ≡ sum_by (value_cost 0) rs / 2 ^ t = ap (λ (m : ℕ). m / 2 ^ t) c.requires.bits in
    let all = rw c.requires.long at (rice_at_least rs t q (omega (arith, near.0, c.requires.long)) (omega (arith, near.1, c.requires.long)) is k) in
    omega (arith, all)

pub returns-clause-escape : goal.returns-clause-escape
returns-clause-escape c = λ n fit.
    let less : c.args.width ≤ n = (c.requires.width n).0 fit in
    rw c.requires.long (omega (arith, c.from-2.ensures, less))
