use Rattle.std.proofs.Common.{rules, ◌<◌, ◌+◌, ◌-◌, ◌*◌, ◌/◌, ◌%◌, ◌^◌, sym, ap, ◌∙◌, arith, refl}
use Rattle.std.specs.Int.{w64, leading_zeros}
use Rattle.std.proofs.Common.{bit_or}
use Rattle.flac_bits.proofs.Words.{rice_taken, taken_clean, taken_small, shifted_small}
use Rattle.flac_bits.proofs.Rices.{joined}
use Rattle.flac_bits.proofs.word.Word.rice.Goals as goal

pub invariant_of-self : goal.invariant_of-self
invariant_of-self c = let z = c.if-used-self.true in (omega (arith, c.self.invariant.0), taken_clean c.self.inside.word _ c.self.inside.count z c.self.invariant.0 c.self.invariant.1)

pub returns-then-from-limit-clause-some : goal.returns-then-from-limit-clause-some
returns-then-from-limit-clause-some c =
    let fits : c.self.inside.word < 2 ^ 64 = search rules in
    let le = c.if-from-limit.true in
    rw c.from-then-from-limit.ensures (
      leading_zeros w64 (bit_or c.self.inside.word 1),
      c.self.inside.word * 2 ^ (leading_zeros w64 (bit_or c.self.inside.word 1) + 1) % 2 ^ 64 / 2 ^ 1 / 2 ^ (63 - c.args.k),
      omega (arith, le, c.from.ensures),
      taken_small _ c.args.k (shifted_small c.self.inside.word (leading_zeros w64 (bit_or c.self.inside.word 1) + 1)) (omega (arith, c.requires.k)),
      ap (λ v. v + c.self.inside.word * 2 ^ (leading_zeros w64 (bit_or c.self.inside.word 1) + 1) % 2 ^ 64 / 2 ^ 1 / 2 ^ (63 - c.args.k)) (joined (leading_zeros w64 (bit_or c.self.inside.word 1)) c.args.k c.args.limit (omega (arith, le, c.from.ensures)) c.requires.limit c.requires.k),
      sym c.self.view_is ∙ rice_taken c.self.inside.word _ c.args.k c.self.inside.count fits c.self.invariant.0 refl c.if-used-self.true,
    )
