use Rattle.std.proofs.Common.{◌≤◌}
use Rattle.flac_predict.proofs.quantised.shift_below.Given as goal

abbrev pub invariant-loop-next : goal.invariant-loop-next
invariant-loop-next l = l.shift ≤ 15
