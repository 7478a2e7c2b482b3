use Rattle.std.proofs.Common.{◌^◌, ◌≤◌, ◌<◌, ℕ}
use Rattle.flac_subframe.specs.search.inner.Halves.{part, entry, LeastBelow}
use Rattle.flac_subframe.proofs.search.halves.compare.Given as goal

abbrev pub invariant-loop-parameter : goal.invariant-loop-parameter
invariant-loop-parameter l = record {
  entries : (p j : ℕ) → p ≤ l.residual.partition_order → j < 2 ^ p → LeastBelow l.parameter (part l.residual.order l.residual.values.now p j) (entry l.table p j);
}
