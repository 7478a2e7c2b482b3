use Rattle.std.proofs.Common.{◌≡◌, take, drop, sym, ap, ◌∙◌}
use Rattle.flac_bits.specs.Bits.{unsigned}
use Rattle.flac_bits.specs.Store.{Store}
use Rattle.flac_bits.specs.State.{past}
use Rattle.flac_bits.proofs.Holding.{took_tie, took_mark}
use Rattle.flac_bits.proofs.held.Held.take.Goals as goal

pub invariant_of-self : goal.invariant_of-self
invariant_of-self c =
    let inv = c.self.invariant in
    (inv.0, inv.1, inv.2, took_tie _ _ _ _ c.take.ensures.0 inv.3, inv.4, inv.5, inv.6, inv.7)

pub returns : goal.returns
returns c =
    let word_is : c.self.inside.word ≡ c.args.self.now.word = ap (λ (s : Store). s.word) c.self.view_is in
    let bytes_is = ap (λ (s : Store). s.bytes) c.self.view_is in
    let mark_is = ap (λ (s : Store). s.mark) c.self.view_is in
    let begun = drop c.self.inside.from (take c.self.inside.place c.self.inside.bytes) in
    ((sym word_is ∙ c.take.ensures.0, bytes_is, took_mark begun _ _ _ _ c.take.ensures.0 c.self.invariant.3 ∙ ap (λ m. past (unsigned c.args.n c.take.result) m) mark_is, ap (λ (s : Store). s.fence) c.self.view_is), c.take.ensures.1)
