use Rattle.std.proofs.Common.{arith}
use Rattle.flac_subframe.specs.format.Cost.{parameter_bits_of}
use Rattle.flac_subframe.proofs.lemmas.format.Methods.{four_or_five}
use Rattle.flac_subframe.proofs.lemmas.search.Orders.{halved_least}
use Rattle.flac_subframe.proofs.lemmas.search.Places.{power_le}
use Rattle.flac_subframe.proofs.lemmas.search.Splits.{halves_at}
use Rattle.flac_subframe.proofs.search.least_coding.take_up.Goals as goal

pub returns-clause-least : goal.returns-clause-least
returns-clause-least c =
    let order = c.args.residual.now.order in let rs = c.args.residual.now.values.now in
    let most = c.args.residual.now.partition_order in let p = c.args.form.partition_order in
    halved_least (parameter_bits_of c.args.form.method) p most order rs (four_or_five c.args.form.method) c.requires.within (halves_at order rs most p c.requires.within c.args.residual.now.halves) _ c.gather-bits.ensures.least

pub gather-bits-requires-clause-codings : goal.gather-bits-requires-clause-codings
gather-bits-requires-clause-codings c = omega (arith, power_le c.args.form.partition_order c.args.residual.now.partition_order c.requires.within, c.requires.codings)
