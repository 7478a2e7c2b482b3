use Rattle.std.proofs.Common.{◌≡◌, ◌≤◌, ◌+◌, drop}
use Rattle.flac_edit.specs.BlockEdits.{count_of}
use Rattle.flac_edit.proofs.block_edits.count_of.Given as goal

abbrev pub invariant-loop-block : goal.invariant-loop-block
invariant-loop-block l = (l.count + count_of l.kind (drop l.block-index l.blocks) ≡ count_of l.kind l.blocks) × (l.count ≤ l.block-index)
