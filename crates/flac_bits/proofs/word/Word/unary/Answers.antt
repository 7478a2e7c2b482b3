use Rattle.std.proofs.Common.{rules, ◌<◌, ◌^◌, sym, ◌∙◌, arith, refl}
use Rattle.flac_bits.proofs.Words.{zeros_taken, taken_clean}
use Rattle.flac_bits.proofs.word.Word.unary.Goals as goal

pub invariant_of-self : goal.invariant_of-self
invariant_of-self c = let z = c.if-zeros-self.true in (omega (arith, c.self.invariant.0), taken_clean c.self.inside.word _ c.self.inside.count (omega (arith, z)) c.self.invariant.0 c.self.invariant.1)

pub returns-then-from-limit-clause-some : goal.returns-then-from-limit-clause-some
returns-then-from-limit-clause-some c =
    let fits : c.self.inside.word < 2 ^ 64 = search rules in
    rw c.from-then-from-limit.ensures
    (omega (arith, c.if-from-limit.true, c.from.ensures), sym c.self.view_is ∙ zeros_taken c.self.inside.word _ c.self.inside.count fits c.self.invariant.0 refl c.if-zeros-self.true)
