use Rattle.std.proofs.Common.{◌≡◌, ◌++◌, drop}
use Rattle.flac_edit.proofs.block_edits.add_blocks.Given as goal

abbrev pub invariant-loop-block : goal.invariant-loop-block
invariant-loop-block l = l.list.items ++ drop l.block-index l.blocks ≡ l.fn.list.items ++ l.blocks
