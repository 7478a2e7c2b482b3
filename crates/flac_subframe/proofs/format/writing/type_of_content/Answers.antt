use Rattle.std.proofs.Common.{arith}
use Rattle.flac_subframe.proofs.lemmas.format.Made.{at_place}
use Rattle.flac_subframe.proofs.format.writing.type_of_content.Goals as goal

pub returns-in-Linear : goal.returns-in-Linear
returns-in-Linear c =
    let within = rw (c.in-Predicted.is, c.in-Linear.is) at c.requires.handed in
    rw (c.in-Predicted.is, c.in-Linear.is, at_place c.args.predictors.now _ c.index-predictors-index.result within c.index-predictors-index.is) (omega (arith, c.order.ensures.value))
