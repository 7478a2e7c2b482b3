use Rattle.std.proofs.Common.{◌≡◌, ◌+◌, ◌-◌, ◌*◌, ◌^◌, ◌≤◌, ℕ, drop, length, map}
use Rattle.flac_subframe.proofs.lemmas.search.LowerBounds.{BoundTo}
use Rattle.flac_bits.specs.Rice.{folded}
use Rattle.flac_subframe.specs.search.inner.Halves.{start}
use Rattle.flac_subframe.proofs.search.pruning.bound_parts.Given as goal

abbrev pub invariant-loop-j : goal.invariant-loop-j
invariant-loop-j l = record {
  bound : (w : ℕ) → BoundTo w (l.size - l.residual.order) l.size l.count l.residual.values.now l.bits l.long (l.count - l.j) l.rest;
  rest : l.rest ≡ drop (start l.residual.order (length l.residual.values.now + l.residual.order) l.residual.partition_order l.j) l.residual.values.now;
  left : l.left ≡ map folded l.rest;
  long : l.long ≡ start l.residual.order (length l.residual.values.now + l.residual.order) l.residual.partition_order (l.j + 1) - start l.residual.order (length l.residual.values.now + l.residual.order) l.residual.partition_order l.j;
  small : l.bits ≤ 2 ^ 21 * l.j;
}
