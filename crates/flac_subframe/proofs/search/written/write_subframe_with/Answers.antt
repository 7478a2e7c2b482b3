use Rattle.std.proofs.Common.{arith}
use Rattle.flac_subframe.specs.search.Choices.{bytes_used}
use Rattle.flac_subframe.proofs.lemmas.format.Made.{made_of_fewer}
use Rattle.flac_subframe.proofs.search.written.write_subframe_with.Goals as goal

pub write_chosen-requires-clause-places : goal.write_chosen-requires-clause-places
write_chosen-requires-clause-places g c = omega (arith, c.requires.few)

pub write_chosen-requires-clause-made : goal.write_chosen-requires-clause-made
write_chosen-requires-clause-made g c =
    let lent = c.lent.ensures in
    let choice = c.args.choice.now in
    rw (lent.form, lent.codings) (made_of_fewer 8 15 c.args.predictors.now choice.form (bytes_used choice) c.args.samples.now (omega arith) c.requires.made)

pub returns : goal.returns
returns g c =
    let lent = c.lent.ensures in
    rw (lent.form, lent.codings) at c.write_chosen.ensures
