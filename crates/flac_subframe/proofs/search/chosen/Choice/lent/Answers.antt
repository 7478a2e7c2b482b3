use Rattle.std.proofs.Common.{rules}
use Rattle.flac_subframe.proofs.lemmas.search.Places.{used_is}
use Rattle.flac_subframe.proofs.search.chosen.Choice.lent.Goals as goal

pub returns-clause-codings : goal.returns-clause-codings
returns-clause-codings c = rw (c.power.ensures, c.min-order.ensures) (used_is c.args.self.now.form.residual.partition_order c.args.self.now.codings (search rules))
