use Rattle.std.proofs.Common.{◌≡◌, ◌^◌, ◌≤◌, ◌<◌, ℕ, get_or}
use Rattle.std.specs.List.{sum_by}
use Rattle.flac_subframe.specs.format.inner.Cost.{value_cost}
use Rattle.flac_subframe.specs.search.inner.Halves.{part}
use Rattle.flac_subframe.proofs.search.halves.coarsen.Given as goal

abbrev pub invariant-loop-level : goal.invariant-loop-level
invariant-loop-level l = record {
  within : l.level ≤ l.residual.partition_order;
  coarse : l.partition_order ≤ l.level;
  costs : (j : ℕ) → j < 2 ^ l.level → get_or l.sums j 0 ≡ sum_by (value_cost 0) (part l.residual.order l.residual.values.now l.level j);
}

abbrev pub decreases-loop-level : goal.decreases-loop-level
decreases-loop-level l = l.level
