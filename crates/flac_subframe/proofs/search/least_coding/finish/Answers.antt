use Rattle.std.proofs.Common.{arith, inl, inr}
use Rattle.flac_subframe.specs.declared.format.coding.Coding.TheVariants.{Rice}
use Rattle.flac_subframe.specs.format.Cost.{parameter_bits_of}
use Rattle.flac_subframe.specs.search.inner.Entry.{parameter_in}
use Rattle.flac_subframe.proofs.lemmas.format.Methods.{four_or_five}
use Rattle.flac_subframe.proofs.lemmas.search.CodingLeast.{rice_is_least, escape_is_least}
use Rattle.flac_subframe.proofs.lemmas.search.Entries.{entry_member, entry_bits, entry_least, entry_small}
use Rattle.flac_subframe.proofs.search.least_coding.finish.Goals as goal

pub returns-then-bits-least-clause-least : goal.returns-then-bits-least-clause-least
returns-then-bits-least-clause-least c =
    let w = parameter_bits_of c.args.method in let rs = c.args.values.now in let e = c.args.best in
    let m = four_or_five c.args.method in let so = c.requires.best in
    escape_is_least w rs (Rice (parameter_in e)) c.args.width (entry_member w rs e m so) (entry_least w rs e m so) c.requires.width c.if-width-lt32.true
    (rw (← c.from.ensures, ← entry_bits w rs e m so, ← c.bits-least.ensures) (omega arith))

pub returns-else-width-lt32-clause-least : goal.returns-else-width-lt32-clause-least
returns-else-width-lt32-clause-least c =
    let w = parameter_bits_of c.args.method in let rs = c.args.values.now in let e = c.args.best in
    let m = four_or_five c.args.method in let so = c.requires.best in
    rw c.parameter.ensures (rice_is_least w rs (Rice (parameter_in e)) c.args.width (entry_member w rs e m so) (entry_least w rs e m so) c.requires.width
    (elim c.else-width-lt32.either [ inl h ↦ inr (rw (← c.from.ensures, ← entry_bits w rs e m so, ← c.bits-least.ensures) h.1) | inr h ↦ inl h ]))

pub returns-else-width-lt32-clause-bits : goal.returns-else-width-lt32-clause-bits
returns-else-width-lt32-clause-bits c =
    rw (c.parameter.ensures, c.bits-least.ensures) (entry_bits (parameter_bits_of c.args.method) c.args.values.now c.args.best (four_or_five c.args.method) c.requires.best)

pub returns-else-width-lt32-clause-small : goal.returns-else-width-lt32-clause-small
returns-else-width-lt32-clause-small c = omega (arith, c.bits-least.ensures, entry_small (parameter_bits_of c.args.method) c.args.values.now c.args.best (four_or_five c.args.method) c.requires.best c.requires.range)
