use Rattle.std.proofs.Common.{◌≡◌, ◌≤◌, ℕ, List, length, take, drop, set, sym, ◌∙◌, arith}
use Rattle.std.proofs.Math.ListN.{length-set}
use Rattle.std.proofs.lemmas.List.{length-take-le, take_at, append-nil}
use Rattle.flac_around.proofs.trimmed.put_one_empty.Goals as goal

long : (lead : List ℕ) → 28 ≤ length lead → length (take 28 (set lead 27 0)) ≡ 28
long lead le = length-take-le 28 (set lead 27 0) (omega (arith, le, length-set lead 27 0))

pub complete-requires-clause-least : goal.complete-requires-clause-least
complete-requires-clause-least c = omega (arith, long c.args.lead.now c.requires)

pub complete-requires-clause-most : goal.complete-requires-clause-most
complete-requires-clause-most c = omega (arith, long c.args.lead.now c.requires)

pub returns : goal.returns
returns c =
    let lead = c.args.lead.now in
    let new = c.complete.new.lead in
    let len : length new ≡ 28 = omega (arith, long lead c.requires, c.complete.auto.lead) in
    take_at new (drop 28 (set lead 27 0)) 28 len ∙ sym (append-nil new) ∙ c.complete.ensures
