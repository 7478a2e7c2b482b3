use Rattle.std.proofs.Common.{◌≡◌, ◌++◌, drop}
use Rattle.flac_copy.proofs.given.copies.Given as goal

abbrev pub invariant-loop-block : goal.invariant-loop-block
invariant-loop-block l = record {
  all : l.list.items ++ drop l.block-index l.blocks ≡ l.blocks;
}
