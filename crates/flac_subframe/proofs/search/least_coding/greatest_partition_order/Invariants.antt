use Rattle.std.proofs.Common.{◌-◌}
use Rattle.flac_subframe.specs.search.inner.Halves.{Halves}
use Rattle.flac_subframe.proofs.search.least_coding.greatest_partition_order.Given as goal

abbrev pub invariant-loop-next : goal.invariant-loop-next
invariant-loop-next l = Halves l.order l.values (l.next - 1)
