use Rattle.std.proofs.Common.{arith, ◌≡◌, ◌+◌, ◌*◌, ℕ, ap, length}
use Rattle.flac_subframe.proofs.lemmas.search.Folds.{cost_split}
use Rattle.flac_subframe.proofs.search.cost.rice_bits.Goals as goal

pub returns-clause-value : goal.returns-clause-value
returns-clause-value c =
    let ns = c.args.folds.now in
    let k = c.args.parameter in
    let e : c.from.result ≡ k = omega (arith, c.from.ensures) in
    let same : length ns * (1 + c.from.result) ≡ length ns * (1 + k) = ap (λ (n : ℕ). length ns * (1 + n)) e in
    omega (arith, c.quotients.ensures.value, same, cost_split k ns)
