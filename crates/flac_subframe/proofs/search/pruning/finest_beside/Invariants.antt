use Rattle.std.proofs.Common.{ℕ, ◌≤◌, ◌<◌, ◌+◌, ◌*◌, ◌^◌}
use Rattle.flac_subframe.proofs.search.pruning.finest_beside.Given as goal

abbrev pub invariant-loop-finest : goal.invariant-loop-finest
invariant-loop-finest l = record {
  within : l.finest ≤ l.partition_order;
  dear : (p : ℕ) → l.finest < p → p ≤ l.partition_order → l.below ≤ l.bound + (6 + 4 * 2 ^ p);
}

abbrev pub decreases-loop-finest : goal.decreases-loop-finest
decreases-loop-finest l = l.finest
