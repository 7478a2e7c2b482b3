use Rattle.std.proofs.Common.{◌≡◌, length}
use Rattle.flac_edit.specs.Places.{is_run}
use Rattle.flac_edit.proofs.slots.is_run.Given as goal

abbrev pub invariant-loop-rest : goal.invariant-loop-rest
invariant-loop-rest l = is_run l.rest ≡ is_run l.slots

abbrev pub decreases-loop-rest : goal.decreases-loop-rest
decreases-loop-rest l = length l.rest
