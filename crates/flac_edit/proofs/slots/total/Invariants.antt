use Rattle.std.proofs.Common.{◌≡◌, ◌+◌, drop}
use Rattle.flac_edit.specs.Places.{total_of}
use Rattle.flac_edit.proofs.slots.total.Given as goal

abbrev pub invariant-loop-slot : goal.invariant-loop-slot
invariant-loop-slot l = l.sum + total_of (drop l.slot-index l.slots) ≡ total_of l.slots
