use Rattle.std.proofs.Common.{◌+◌, ◌-◌, ◌≤◌, length}
use Rattle.flac_subframe.specs.format.inner.Products.{HasSums}
use Rattle.flac_subframe.proofs.search.wide_products.add_all.Given as goal

abbrev pub invariant-loop-done : goal.invariant-loop-done
invariant-loop-done l = record {
  sums : HasSums l.done l.coefficients l.samples l.sums;
  few : l.done ≤ length l.coefficients;
}

abbrev pub decreases-loop-done : goal.decreases-loop-done
decreases-loop-done l = l.order + 1 - l.done

abbrev pub invariant-loop-done-2 : goal.invariant-loop-done-2
invariant-loop-done-2 l = record {
  sums : HasSums l.done l.coefficients l.samples l.sums;
  few : l.done ≤ length l.coefficients;
}

abbrev pub decreases-loop-done-2 : goal.decreases-loop-done-2
decreases-loop-done-2 l = l.order - l.done
