use Rattle.std.proofs.Common.{◌≡◌, drop}
use Rattle.flac_edit.specs.BlockEdits.{missing}
use Rattle.flac_edit.proofs.block_edits.missing.Given as goal

abbrev pub invariant-loop-removal : goal.invariant-loop-removal
invariant-loop-removal l = missing l.count (drop l.removal-index l.removals) ≡ missing l.count l.removals
