use Rattle.std.proofs.Common.{◌≡◌, ◌≤◌, ◌∙◌, ◌++◌, ℕ, length, take, ap, sym, subst}
use Rattle.std.proofs.lemmas.Bool.{and_parts}
use Rattle.std.proofs.lemmas.List.{length-take-le}
use Rattle.flac_wave.specs.Parts.{given, end_of}
use Rattle.flac_wave.proofs.Parts.{part_next, end_next}
use Rattle.flac_wave.proofs.limited.LimitedSource.pull.Goals as goal

pub returns-in-Ok-clause-bytes : goal.returns-in-Ok-clause-bytes
returns-in-Ok-clause-bytes g c = λ known.
    let n = c.in-Ok.count in
    let e = c.in-Ok.ensures in
    let front = take n c.pull_most.new.buf in
    let later = g.S.Source.coming c.pull_most.new.source in
    part_next c.args.self.now.left _ n front (g.S.Source.coming c.args.self.now.source) later (length-take-le n c.pull_most.new.buf e.bound.0)
    (subst (λ k. n ≤ k) c.room_in-most.ensures.value e.few) (e.bytes (and_parts _ _ known).0)
    ∙ ap (λ o. front ++ given o later) (sym c.size_after-self.ensures)

pub returns-in-Ok-clause-foretold : goal.returns-in-Ok-clause-foretold
returns-in-Ok-clause-foretold g c = λ known same.
    let n = c.in-Ok.count in
    let e = c.in-Ok.ensures in
    let front = take n c.pull_most.new.buf in
    let later = g.S.Source.coming c.pull_most.new.source in
    ap (λ o. end_of o later) c.size_after-self.ensures
    ∙ end_next c.args.self.now.left _ n front (g.S.Source.coming c.args.self.now.source) later (length-take-le n c.pull_most.new.buf e.bound.0)
    (subst (λ k. n ≤ k) c.room_in-most.ensures.value e.few) (e.bytes (and_parts _ _ known).0)
