use Rattle.std.proofs.Common.{◌≡◌, take, map}
use Rattle.flac_subframe.specs.format.Handed.{predictor_of}
use Rattle.flac_predict.proofs.block.copied.Given as goal

abbrev pub invariant-loop-predictor : goal.invariant-loop-predictor
invariant-loop-predictor l = map predictor_of l.list.items ≡ map predictor_of (take l.predictor-index l.given)
