use Rattle.std.proofs.Common.{arith, ◌≡◌, ◌∙◌, ◌+◌, ◌*◌, ◌≤◌, ℕ, ap, sym, length}
use Rattle.std.proofs.lemmas.Nat.{mul-le}
use Rattle.flac_subframe.proofs.lemmas.search.Folds.{below_of}
use Rattle.flac_subframe.proofs.lemmas.search.Close.{close_at_least}
use Rattle.flac_subframe.proofs.search.pruning.bound_closely_of.Goals as goal

pub quotients-low-requires-clause-bounded : goal.quotients-low-requires-clause-bounded
quotients-low-requires-clause-bounded c = rw c.requires.folded (below_of c.args.width c.args.values.now ((c.requires.width c.args.width).1 (omega arith)))

pub quotients-high-requires-clause-bounded : goal.quotients-high-requires-clause-bounded
quotients-high-requires-clause-bounded c = rw c.requires.folded (below_of c.args.width c.args.values.now ((c.requires.width c.args.width).1 (omega arith)))

pub returns-clause-rice : goal.returns-clause-rice
returns-clause-rice c = λ k.
    let rs = c.args.values.now in
    let n : ℕ = c.args.count in
    let t : ℕ = c.min-shift.result in
    let under : n * (1 + c.from.result) ≡ n * (1 + t) = ap (λ (m : ℕ). n * (1 + m)) c.from.ensures in
    let over : n * (2 + c.from-2.result) ≡ n * (2 + t) = ap (λ (m : ℕ). n * (2 + m)) c.from-2.ensures in
    let least = close_at_least rs c.args.folds.now n t c.quotients-low.result c.quotients-high.result c.requires.folded (c.requires.count ∙ sym c.requires.long) c.quotients-low.ensures.value c.quotients-high.ensures.value (omega arith) (omega arith) k in
    omega (arith, under, over, least)

pub returns-clause-escape : goal.returns-clause-escape
returns-clause-escape c = λ n fit.
    let m : ℕ = c.args.count in
    let same : n * m ≡ n * length c.args.values.now = ap (λ (k : ℕ). n * k) c.requires.count in
    let less : c.args.width ≤ n = (c.requires.width n).0 fit in
    let a : c.from-3.result * m ≤ n * m = mul-le c.from-3.result m n m (omega (arith, c.from-3.ensures, less)) (omega arith) in
    omega (arith, a, same)
