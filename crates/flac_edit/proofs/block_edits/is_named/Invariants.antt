use Rattle.std.proofs.Common.{◌≡◌, drop}
use Rattle.flac_edit.specs.BlockEdits.{is_named}
use Rattle.flac_edit.proofs.block_edits.is_named.Given as goal

abbrev pub invariant-loop-removal : goal.invariant-loop-removal
invariant-loop-removal l = is_named (drop l.removal-index l.removals) l.number l.block ≡ is_named l.removals l.number l.block
