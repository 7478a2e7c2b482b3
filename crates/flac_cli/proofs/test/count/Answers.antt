use Rattle.std.proofs.Common.{refl}
use Rattle.flac_cli.proofs.Counting.{counted_from_none}
use Rattle.flac_cli.proofs.test.count.Goals as goal

pub returns-in-Ok-clause-counts : goal.returns-in-Ok-clause-counts
returns-in-Ok-clause-counts g c tells =
    let d = c.in-Ok.ensures.takes tells refl in
    let counted = counted_from_none (λ s. s.frames) (λ s. s.samples) _ d.0 _ d.2 refl refl in
    (d.0, d.1, counted)

pub returns-in-Ok-clause-outcome : goal.returns-in-Ok-clause-outcome
returns-in-Ok-clause-outcome g c tells = c.in-Ok.ensures.outcome tells refl refl

pub returns-in-Err-clause-outcome : goal.returns-in-Err-clause-outcome
returns-in-Err-clause-outcome g c tells = c.in-Err.ensures.outcome tells refl refl
