use Rattle.std.proofs.Common.{◌≡◌, ◌≤◌, ◌<◌, ◌+◌, ◌-◌, ◌*◌, length}
use Rattle.flac_subframe.specs.format.Cost.{Codings, MayWrite}
use Rattle.flac_subframe.specs.format.inner.Cost.{residual_cost}
use Rattle.flac_subframe.proofs.search.pruning.finest_in_doubt.Given as goal

abbrev pub invariant-loop-partition_order : goal.invariant-loop-partition_order
invariant-loop-partition_order l = record {
  some : 8 ≤ l.partition_order;
  within : l.partition_order ≤ l.residual.partition_order;
  dear : (f : Codings) → MayWrite l.residual.partition_order l.residual.order l.residual.values.now f → l.partition_order < f.partition_order → l.below ≤ residual_cost l.residual.order l.residual.values.now f;
  sums : length l.sums ≡ length l.fn.sums;
  widths : length l.widths ≡ length l.fn.widths;
  priced : l.priced ≤ (1 + 4 * (l.residual.partition_order - l.partition_order)) * length l.residual.values.now;
}

abbrev pub decreases-loop-partition_order : goal.decreases-loop-partition_order
decreases-loop-partition_order l = l.partition_order
