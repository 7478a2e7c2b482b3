use Rattle.std.proofs.Common.{◌≡◌, ◌<◌, ◌∙◌, ℕ, arith}
use Rattle.std.proofs.lemmas.Result.{err_from_is_err_and}
use Rattle.flac_wave.proofs.reading.read_at_most.Goals as goal

-- a count that rose is not as it was
rose : {X : Type 0} (began before now : ℕ) → before < now → before ≡ began → now ≡ began → X
rose began before now more was same = absurd (omega (arith, more, was, same))

pub returns-in_err-count : goal.returns-in_err-count
returns-in_err-count g c =
    let p = err_from_is_err_and c.from_residual.result c.from_residual.ensures.1 in
    let inv = c.pieces.invariant in
    rw (p.1, p.2) (record {
      few = tt;
      bytes = tt;
      end = tt;
      known = tt;
      counted = tt;
      after = tt;
      most = tt;
      memory = λ known same. rose _ _ _ (c.in_err-count.ensures.failed (inv.known known)) inv.raised same;
      names = c.in_err-count.ensures.names ∙ inv.names;
    })
