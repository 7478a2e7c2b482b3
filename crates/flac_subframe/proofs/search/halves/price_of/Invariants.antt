use Rattle.std.proofs.Common.{◌≡◌, ◌+◌, ◌-◌, ◌<◌, ℕ, get_or, length, drop}
use Rattle.std.specs.List.{sum_by}
use Rattle.flac_subframe.specs.format.inner.Cost.{value_cost}
use Rattle.flac_subframe.specs.search.inner.Halves.{part, start}
use Rattle.flac_subframe.proofs.search.halves.price_of.Given as goal

abbrev pub invariant-loop-sum : goal.invariant-loop-sum
invariant-loop-sum l = record {
  rest : l.rest ≡ drop (start l.residual.order (length l.residual.values.now + l.residual.order) l.residual.partition_order l.sum-index) l.residual.folds.now;
  long : l.long ≡ start l.residual.order (length l.residual.values.now + l.residual.order) l.residual.partition_order (l.sum-index + 1) - start l.residual.order (length l.residual.values.now + l.residual.order) l.residual.partition_order l.sum-index;
  done : (j : ℕ) → j < l.sum-index → get_or l.sums j 0 ≡ sum_by (value_cost l.parameter) (part l.residual.order l.residual.values.now l.residual.partition_order j);
}
