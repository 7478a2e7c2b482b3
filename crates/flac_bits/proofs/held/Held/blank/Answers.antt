use Rattle.std.proofs.Common.{take, drop, replicate, false, sym, ap, ◌∙◌}
use Rattle.flac_bits.specs.Store.{Store}
use Rattle.flac_bits.specs.State.{past}
use Rattle.flac_bits.proofs.Holding.{took_tie, took_mark}
use Rattle.flac_bits.proofs.held.Held.blank.Goals as goal

pub invariant_of-self : goal.invariant_of-self
invariant_of-self c =
    let inv = c.self.invariant in
    (inv.0, inv.1, inv.2, took_tie _ _ _ _ c.blank.ensures.taken inv.3, inv.4, inv.5, inv.6, inv.7)

pub returns-clause-taken : goal.returns-clause-taken
returns-clause-taken c =
    let word_is = ap (λ (s : Store). s.word) c.self.view_is in
    let bytes_is = ap (λ (s : Store). s.bytes) c.self.view_is in
    let mark_is = ap (λ (s : Store). s.mark) c.self.view_is in
    let begun = drop c.self.inside.from (take c.self.inside.place c.self.inside.bytes) in
    (sym word_is ∙ c.blank.ensures.taken, bytes_is, took_mark begun _ _ _ _ c.blank.ensures.taken c.self.invariant.3 ∙ ap (λ m. past (replicate c.blank.result false) m) mark_is, ap (λ (s : Store). s.fence) c.self.view_is)
