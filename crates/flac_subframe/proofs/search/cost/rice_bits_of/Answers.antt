use Rattle.std.proofs.Common.{arith, ◌≡◌, ◌+◌, ◌*◌, ℕ, ap, length}
use Rattle.flac_subframe.proofs.lemmas.search.Folds.{cost_split}
use Rattle.flac_subframe.proofs.search.cost.rice_bits_of.Goals as goal

pub returns-then-width-parameter : goal.returns-then-width-parameter
returns-then-width-parameter c =
    let ns = c.args.folds.now in
    let k = c.args.parameter in
    let same : length ns * (1 + k) ≡ 16 * (1 + k) = ap (λ (n : ℕ). n * (1 + k)) c.if-folds-eq16.true in
    omega (arith, c.from.ensures, c.from-then-width-parameter.ensures, c.quotients_in_lanes-sum.ensures, same, cost_split k ns)
