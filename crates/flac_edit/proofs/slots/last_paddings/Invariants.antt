use Rattle.std.proofs.Common.{◌≤◌}
use Rattle.flac_edit.proofs.slots.last_paddings.Given as goal

abbrev pub invariant-loop-i : goal.invariant-loop-i
invariant-loop-i l = l.start ≤ l.i
