use Rattle.std.proofs.Common.{arith, ◌≤◌}
use Rattle.std.proofs.lemmas.Bool.Decides.{nat_tests}
use Rattle.flac_subframe.proofs.lemmas.search.Finer.{up_to}
use Rattle.flac_subframe.proofs.lemmas.search.Places.{power_le}
use Rattle.flac_subframe.proofs.search.pruning.is_order_too_dear.Goals as goal

pub returns-then-bound-below-clause-dear : goal.returns-then-bound-below-clause-dear
returns-then-bound-below-clause-dear c = λ yes f m e. omega (arith, c.bound_by_digits-bound.ensures f m e, c.if-bound-below.true)

pub lowest-requires-clause-places : goal.lowest-requires-clause-places
lowest-requires-clause-places c = rw c.at-coarser.ensures.partition_order (omega (arith, power_le c.args.partition_order c.args.residual.now.partition_order c.requires.within, c.requires.widths))

pub lowest-requires-clause-sums : goal.lowest-requires-clause-sums
lowest-requires-clause-sums c = rw c.at-coarser.ensures.partition_order (omega (arith, power_le c.args.partition_order c.args.residual.now.partition_order c.requires.within, c.requires.sums))

pub bound_parts-close-requires-clause-places : goal.bound_parts-close-requires-clause-places
bound_parts-close-requires-clause-places c = rw c.at-coarser.ensures.partition_order (omega (arith, power_le c.args.partition_order c.args.residual.now.partition_order c.requires.within, c.requires.sums, c.lowest.auto.sums))

pub bound_parts-close-requires-clause-widths_long : goal.bound_parts-close-requires-clause-widths_long
bound_parts-close-requires-clause-widths_long c = rw c.at-coarser.ensures.partition_order (omega (arith, power_le c.args.partition_order c.args.residual.now.partition_order c.requires.within, c.requires.widths, c.lowest.ensures.long))

pub returns-clause-dear : goal.returns-clause-dear
returns-clause-dear c = λ yes f m e.
    let few : f.partition_order ≤ c.args.partition_order = omega (arith, e) in
    let is = c.at-coarser.ensures in
    let last = rw (is.values, is.order, is.partition_order) at c.bound_parts-close.ensures.last in
    let least = last f (up_to c.args.residual.now.order c.args.partition_order c.args.residual.now.partition_order c.args.residual.now.values.now f m few) e in
    let reached : c.saturating_sub-rest.result ≤ c.bound_parts-close.result.bits = grind (arith, nat_tests, yes) in
    omega (arith, least, reached)
