use Rattle.std.proofs.Common.{◌≡◌, ◌≤◌, ◌++◌, drop, length, List}
use Rattle.flac_bits.proofs.Writing.{Towards}
use Rattle.flac_meta.specs.declared.block.Block.{Block}
use Rattle.flac_native.specs.Writing.{blocks_spelling}
use Rattle.flac_native.proofs.encoding.write_each.Given as goal

-- what was written of all blocks, whatever stands after these
abbrev pub invariant-loop-i : goal.invariant-loop-i
invariant-loop-i g l = record {
  few : l.i ≤ length l.blocks;
  towards : (more : List Block) → l.fn.count ≡ length (l.blocks ++ more) → Towards (blocks_spelling (drop l.i (l.blocks ++ more))) (blocks_spelling (l.blocks ++ more)) l.fn.writer l.writer;
}
