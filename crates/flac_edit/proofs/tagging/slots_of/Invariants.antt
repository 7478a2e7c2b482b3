use Rattle.std.proofs.Common.{◌≡◌, ◌++◌, drop}
use Rattle.flac_edit.specs.Places.{slots_of}
use Rattle.flac_edit.proofs.tagging.slots_of.Given as goal

abbrev pub invariant-loop-block : goal.invariant-loop-block
invariant-loop-block l = l.slots.items ++ slots_of (drop l.block-index l.blocks) ≡ slots_of l.blocks
