use Rattle.std.proofs.Common.{◌≡◌, length}
use Rattle.flac_edit.specs.Places.{are_paddings}
use Rattle.flac_edit.proofs.slots.are_paddings.Given as goal

abbrev pub invariant-loop-rest : goal.invariant-loop-rest
invariant-loop-rest l = are_paddings l.rest ≡ are_paddings l.slots

abbrev pub decreases-loop-rest : goal.decreases-loop-rest
decreases-loop-rest l = length l.rest
