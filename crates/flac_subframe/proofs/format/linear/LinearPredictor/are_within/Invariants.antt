use Rattle.std.proofs.Common.{take}
use Rattle.flac_subframe.specs.format.Handed.{AreWithin}
use Rattle.flac_subframe.proofs.format.linear.LinearPredictor.are_within.Given as goal

abbrev pub invariant-loop-predictor : goal.invariant-loop-predictor
invariant-loop-predictor l = AreWithin l.limit (take l.predictor-index l.predictors)
