use Rattle.std.proofs.Common.{◌≡◌, ◌+◌, drop}
use Rattle.flac_edit.specs.BlockEdits.{front_len}
use Rattle.flac_edit.proofs.block_edits.front_len.Given as goal

abbrev pub invariant-loop-i : goal.invariant-loop-i
invariant-loop-i l = l.i + front_len (drop l.i l.blocks) ≡ front_len l.blocks
