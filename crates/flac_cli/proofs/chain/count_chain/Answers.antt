use Rattle.std.proofs.Common.{◌≡◌, refl}
use Rattle.flac_chain.proofs.Links.{at_ok, if_err}
use Rattle.flac_cli.proofs.Counting.{counted_from_none}
use Rattle.flac_cli.proofs.chain.count_chain.Goals as goal

pub returns-in-Ok-clause-counts : goal.returns-in-Ok-clause-counts
returns-in-Ok-clause-counts g c = λ tells.
    let d = at_ok c.decode_chain-source.result.outcome c.in-Ok.field-0 c.in-Ok.is (c.decode_chain-source.ensures.takes (λ old x new h. (λ k. refl, refl)) tells refl) in
    (d.0, d.1, counted_from_none (λ s. s.frames) (λ s. s.samples) _ _ _ d.2 refl refl)

pub returns-in-Err-clause-refused : goal.returns-in-Err-clause-refused
returns-in-Err-clause-refused g c = λ tells other.
    let d = if_err _ c.decode_chain-source.result.outcome c.in-Err.fault c.in-Err.is (c.decode_chain-source.ensures.refused (λ old x new h. (λ k. refl, refl)) tells refl refl) other in
    (d.0, d.1, d.2, d.3)
