use Rattle.std.proofs.Common.{◌≡◌, ℕ, rules, sym, subst}
use Rattle.flac_c.specs.Bound.{bound_of, IsEnough}
use Rattle.flac_c.proofs.Enough.{enough}
use Rattle.flac_c.proofs.bound.flac_proved_bound.Goals as goal

pub returns-clause-enough : goal.returns-clause-enough
returns-clause-enough c =
    let is : c.min.result ≡ bound_of c.args.settings.now c.args.count c.args.tags.now = search rules in
    subst (λ (n : ℕ). IsEnough c.args.settings.now c.args.count c.args.tags.now n) (sym is) (enough c.args.settings.now c.args.count c.args.tags.now)
