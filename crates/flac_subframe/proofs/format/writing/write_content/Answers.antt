use Rattle.std.proofs.Common.{pos}
use Rattle.flac_subframe.specs.format.Numbers.{sample_at}
use Rattle.flac_subframe.proofs.lemmas.format.Made.{at_place}
use Rattle.flac_subframe.proofs.lemmas.format.Bounds.{back_33}
use Rattle.flac_subframe.proofs.lemmas.format.WriteSteps.{constant_text, verbatim_text}
use Rattle.flac_subframe.proofs.format.writing.write_content.Goals as goal

pub returns-in-Constant : goal.returns-in-Constant
returns-in-Constant g c =
    let x = sample_at c.args.samples.now 0 in
    let same = back_33 x (c.requires.fits 0 (pos 0) c.requires.some) in
    let put = rw same at c.put_signed.ensures in
    rw (c.in-Constant.is, constant_text c.args.depth x) put

pub returns-in-Verbatim : goal.returns-in-Verbatim
returns-in-Verbatim g c = rw (c.in-Verbatim.is, verbatim_text c.args.depth c.args.samples.now) c.write_signed.ensures

pub write_fixed-requires-clause-order : goal.write_fixed-requires-clause-order
write_fixed-requires-clause-order g c = rw (c.in-Predicted.is, c.in-Fixed.is) at c.requires.handed

pub write_fixed-requires-clause-predicts : goal.write_fixed-requires-clause-predicts
write_fixed-requires-clause-predicts g c = let stands = rw (c.in-Predicted.is, c.in-Fixed.is) at c.requires.stands in stands.1

pub write_linear-requires-clause-predicts : goal.write_linear-requires-clause-predicts
write_linear-requires-clause-predicts g c =
    let stands = rw (c.in-Predicted.is, c.in-Linear.is) at c.requires.stands in
    let within = rw (c.in-Predicted.is, c.in-Linear.is) at c.requires.handed in
    rw (at_place c.args.predictors.now _ c.index-predictors-index.result within c.index-predictors-index.is) at stands.1

pub returns-in-Linear : goal.returns-in-Linear
returns-in-Linear g c =
    let within = rw (c.in-Predicted.is, c.in-Linear.is) at c.requires.handed in
    rw (c.in-Predicted.is, c.in-Linear.is, at_place c.args.predictors.now _ c.index-predictors-index.result within c.index-predictors-index.is) c.write_linear.ensures
