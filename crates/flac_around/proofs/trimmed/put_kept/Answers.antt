use Rattle.std.proofs.Common.{◌≡◌, ◌+◌, ◌++◌, length, drop, ap, ◌∙◌, arith}
use Rattle.std.proofs.lemmas.List.{length-take-le, take_at}
use Rattle.flac_around.proofs.trimmed.put_kept.Goals as goal

pub returns : goal.returns
returns c =
    let lead = c.args.lead.now in
    let n = 27 + c.args.kept in
    let new = c.complete.new.lead in
    let len : length new ≡ n = omega (arith, length-take-le n lead c.requires.few, c.complete.auto.lead) in
    ap (λ l. l ++ c.args.body.now) (take_at new (drop n lead) n len) ∙ c.complete.ensures
