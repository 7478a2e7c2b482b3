use Rattle.std.proofs.Common.{◌≡◌, ◌+◌, ◌-◌, List, drop, length}
use Rattle.flac_subframe.specs.declared.format.coding.Coding.{Coding}
use Rattle.flac_subframe.specs.format.Cost.{parameter_bits_of}
use Rattle.flac_subframe.proofs.lemmas.search.Pricing.{PricedTo}
use Rattle.flac_subframe.specs.search.inner.Halves.{start}
use Rattle.flac_subframe.proofs.search.least_coding.total.Given as goal

abbrev pub invariant-loop-j : goal.invariant-loop-j
invariant-loop-j l = record {
  priced : (done : List Coding) × PricedTo (parameter_bits_of l.method) (l.size - l.residual.order) l.size l.count l.residual.values.now done l.bits l.long (l.count - l.j) l.rest;
  rest : l.rest ≡ drop (start l.residual.order (length l.residual.values.now + l.residual.order) l.partition_order l.j) l.residual.values.now;
  long : l.long ≡ start l.residual.order (length l.residual.values.now + l.residual.order) l.partition_order (l.j + 1) - start l.residual.order (length l.residual.values.now + l.residual.order) l.partition_order l.j;
}
