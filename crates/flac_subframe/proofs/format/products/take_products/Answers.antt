use Rattle.std.proofs.Common.{◌^◌, length, pos, arith}
use Rattle.std.proofs.lemmas.List.{get_or-replicate}
use Rattle.flac_subframe.proofs.lemmas.format.Lanes.{stays_below, no_sums, sums_below, differences_from}
use Rattle.flac_subframe.proofs.format.products.take_products.Goals as goal

pub add_all-requires-clause-small : goal.add_all-requires-clause-small
add_all-requires-clause-small c = stays_below c.args.samples.now c.args.peak c.requires.peak (2 ^ 31) c.args.coefficients.now (c.are_small.ensures c.if-not-are_small.false)

pub add_all-requires-clause-before : goal.add_all-requires-clause-before
add_all-requires-clause-before c = no_sums c.args.coefficients.now c.args.samples.now c.fill.new.self (λ j h. rw (c.fill.ensures.after (λ y is. is)) (get_or-replicate _ j (pos 0) (pos 0) (omega (arith, h, c.fill.ensures.len))))

pub leave-requires-clause-small : goal.leave-requires-clause-small
leave-requires-clause-small c = λ j h.
    sums_below (2 ^ 31) c.args.coefficients.now c.args.samples.now c.add_all.new.sums (length c.args.coefficients.now) c.add_all.ensures.after
    (stays_below c.args.samples.now c.args.peak c.requires.peak (2 ^ 31) c.args.coefficients.now (c.are_small.ensures c.if-not-are_small.false)) j h

pub returns-clause-values : goal.returns-clause-values
returns-clause-values c = λ _. differences_from c.args.coefficients.now c.args.samples.now c.args.shift c.add_all.new.sums c.leave.new.values (omega arith) (omega arith) c.add_all.ensures.after c.leave.ensures.values
