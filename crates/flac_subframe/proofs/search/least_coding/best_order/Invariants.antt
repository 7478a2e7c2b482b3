use Rattle.std.proofs.Common.{◌≡◌, ◌≤◌, ◌*◌, ◌^◌}
use Rattle.flac_subframe.specs.format.Cost.{parameter_bits_of}
use Rattle.flac_subframe.specs.format.inner.Cost.{HalvedTo}
use Rattle.flac_subframe.specs.format.inner.Cost.{residual_cost}
use Rattle.flac_subframe.specs.search.inner.Least.{IsLeastCost}
use Rattle.flac_subframe.proofs.lemmas.search.Orders.{BelowOrder}
use Rattle.flac_subframe.proofs.search.least_coding.best_order.Given as goal

abbrev pub invariant-loop-partition_order : goal.invariant-loop-partition_order
invariant-loop-partition_order l = record {
  method : l.best.method ≡ l.method;
  within : l.best.partition_order ≤ l.residual.partition_order;
  least : IsLeastCost (BelowOrder (parameter_bits_of l.method) l.residual.partition_order l.residual.order l.residual.values.now l.partition_order) (residual_cost l.residual.order l.residual.values.now) l.best.bits;
  here : IsLeastCost (HalvedTo (parameter_bits_of l.method) l.best.partition_order l.residual.partition_order l.residual.order l.residual.values.now) (residual_cost l.residual.order l.residual.values.now) l.best.bits;
  small : l.best.bits ≤ 2 ^ 33 * 2 ^ 16;
}
