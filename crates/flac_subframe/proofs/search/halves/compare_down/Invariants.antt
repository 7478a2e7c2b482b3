use Rattle.std.proofs.Common.{◌^◌, ◌≤◌, ◌<◌, ℕ}
use Rattle.flac_subframe.specs.search.inner.Halves.{part, entry}
use Rattle.flac_subframe.proofs.lemmas.search.Walks.{LeastWithin}
use Rattle.flac_subframe.proofs.search.halves.compare_down.Given as goal

abbrev pub invariant-loop-low : goal.invariant-loop-low
invariant-loop-low l = record {
  within : l.low ≤ l.from;
  entries : (p j : ℕ) → p ≤ l.residual.partition_order → j < 2 ^ p → LeastWithin l.low l.from (part l.residual.order l.residual.values.now p j) (entry l.table p j);
}

abbrev pub decreases-loop-low : goal.decreases-loop-low
decreases-loop-low l = l.low
