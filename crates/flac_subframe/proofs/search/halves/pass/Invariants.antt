use Rattle.std.proofs.Common.{◌≡◌, ◌^◌, ◌≤◌, ◌<◌, ℕ, get_or, min}
use Rattle.std.specs.List.{sum_by}
use Rattle.flac_subframe.specs.format.inner.Cost.{value_cost}
use Rattle.flac_subframe.specs.search.inner.Entry.{entry_number}
use Rattle.flac_subframe.specs.search.inner.Halves.{part, entry}
use Rattle.flac_subframe.proofs.search.halves.pass.Given as goal

abbrev pub invariant-loop-level : goal.invariant-loop-level
invariant-loop-level l = record {
  within : l.level ≤ l.residual.partition_order;
  costs : (j : ℕ) → j < 2 ^ l.level → get_or l.sums j 0 ≡ sum_by (value_cost l.parameter) (part l.residual.order l.residual.values.now l.level j);
  noted : (p j : ℕ) → l.level ≤ p → p ≤ l.residual.partition_order → j < 2 ^ p → entry l.table p j ≡ min (entry l.fn.table p j) (entry_number l.parameter (sum_by (value_cost l.parameter) (part l.residual.order l.residual.values.now p j)));
  rest : (i : ℕ) → i < 2 ^ l.level → get_or l.table i 0 ≡ get_or l.fn.table i 0;
}

abbrev pub decreases-loop-level : goal.decreases-loop-level
decreases-loop-level l = l.level
