use Rattle.flac_predict.specs.Found.{IsFoundAfter}
use Rattle.flac_predict.proofs.block.Block.list.Given as goal

abbrev pub invariant-loop-sums : goal.invariant-loop-sums
invariant-loop-sums l = IsFoundAfter l.given l.list.items
