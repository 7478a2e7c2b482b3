use Rattle.std.proofs.Common.{◌≤◌}
use Rattle.flac_subframe.proofs.search.choice.likely_order.Given as goal

abbrev pub invariant-loop-order : goal.invariant-loop-order
invariant-loop-order l = l.likely ≤ 4
