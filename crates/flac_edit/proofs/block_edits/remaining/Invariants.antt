use Rattle.std.proofs.Common.{◌≡◌, ◌++◌, drop}
use Rattle.flac_edit.specs.BlockEdits.{remaining}
use Rattle.flac_edit.proofs.block_edits.remaining.Given as goal

abbrev pub invariant-loop-number : goal.invariant-loop-number
invariant-loop-number l = l.kept.items ++ remaining l.edits l.number (drop l.number l.blocks) ≡ remaining l.edits 0 l.blocks
