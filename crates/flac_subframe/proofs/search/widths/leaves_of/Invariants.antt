use Rattle.std.proofs.Common.{◌≡◌, ◌+◌, ◌-◌, ◌*◌, ◌^◌, ◌<◌, ◌≤◌, ℕ, get_or, length, drop}
use Rattle.std.specs.List.{sum_by}
use Rattle.flac_subframe.specs.format.inner.Cost.{value_cost}
use Rattle.flac_subframe.specs.search.inner.Halves.{part, start, IsWidth}
use Rattle.flac_subframe.proofs.lemmas.search.LowerBounds.{BoundTo}
use Rattle.flac_subframe.proofs.search.widths.leaves_of.Given as goal

abbrev pub invariant-loop-j : goal.invariant-loop-j
invariant-loop-j l = record {
  bound : (w : ℕ) → BoundTo w (l.size - l.residual.order) l.size l.count l.residual.values.now l.bound l.long (l.count - l.j) l.rest;
  rest : l.rest ≡ drop (start l.residual.order (length l.residual.values.now + l.residual.order) l.residual.partition_order l.j) l.residual.values.now;
  left : l.left ≡ drop (start l.residual.order (length l.residual.values.now + l.residual.order) l.residual.partition_order l.j) l.residual.folds.now;
  long : l.long ≡ start l.residual.order (length l.residual.values.now + l.residual.order) l.residual.partition_order (l.j + 1) - start l.residual.order (length l.residual.values.now + l.residual.order) l.residual.partition_order l.j;
  low : l.bound ≤ 2 ^ 21 * l.j;
  done : (j : ℕ) → j < l.j → IsWidth (part l.residual.order l.residual.values.now l.residual.partition_order j) (get_or l.widths j 0);
  small : (j : ℕ) → j < l.j → get_or l.widths j 0 ≤ 32;
  costs : (j : ℕ) → j < l.j → get_or l.sums j 0 ≡ sum_by (value_cost 0) (part l.residual.order l.residual.values.now l.residual.partition_order j);
}
