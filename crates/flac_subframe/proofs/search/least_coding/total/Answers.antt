use Rattle.std.proofs.Common.{arith, ◌≡◌, ◌∙◌, ◌+◌, ◌-◌, ◌<◌, ◌≤◌, ℕ, refl, length, ◌++◌, ◌∷◌, []}
use Rattle.std.proofs.lemmas.List.{get_or_default}
use Rattle.std.proofs.lemmas.List.Elements.{All-take}
use Rattle.flac_bits.specs.Rice.{IsResidual}
use Rattle.flac_subframe.specs.format.Cost.{parameter_bits_of}
use Rattle.flac_subframe.proofs.lemmas.format.Methods.{four_or_five}
use Rattle.flac_subframe.proofs.lemmas.search.Pricing.{priced_more, priced_least, priced_bits, priced_start}
use Rattle.flac_subframe.specs.search.inner.Halves.{part}
use Rattle.flac_subframe.proofs.lemmas.search.Splits.{halves_at}
use Rattle.flac_subframe.proofs.lemmas.search.Turns.{long_within, long_few, index_below, entry_within, one_left, none_left, all_rest, first_long, next_long, next_rest, priced_small}
use Rattle.flac_subframe.proofs.search.least_coding.total.Goals as goal

before : (a n : ℕ) → a < n → a ≤ n
before a n h = omega arith

from_none : (n : ℕ) → 0 ≤ n
from_none n = omega arith

left_at_first : (n : ℕ) → n - 0 ≡ n
left_at_first n = omega arith

pub overflow_sub-long : goal.overflow_sub-long
overflow_sub-long c =
    let r = c.args.residual.now in
    before _ _ (halves_at r.order r.values.now r.partition_order c.args.partition_order c.requires.within r.halves).room

pub loop-j-init : goal.loop-j-init
loop-j-init c =
    let r = c.args.residual.now in let order = r.order in let rs = r.values.now in let p = c.args.partition_order in
    let halves = halves_at order rs r.partition_order p c.requires.within r.halves in
    let priced = priced_start (parameter_bits_of c.args.method) order p c.power-count.result _ rs halves r.range c.power-count.ensures (left_at_first c.power-count.result) in
    record {
      priced = ([], priced);
      rest = all_rest order (length rs + order) p rs;
      long = first_long order (length rs + order) p;
    }

pub bounds-table-count : goal.bounds-table-count
bounds-table-count c = entry_within c.args.partition_order c.loop-j.j c.power-count.result c.args.residual.now.partition_order _ c.requires.within c.power-count.ensures c.loop-j-test.true c.requires.table

pub bounds-widths-count : goal.bounds-widths-count
bounds-widths-count c = entry_within c.args.partition_order c.loop-j.j c.power-count.result c.args.residual.now.partition_order _ c.requires.within c.power-count.ensures c.loop-j-test.true c.requires.places

pub finish-best-requires-clause-range : goal.finish-best-requires-clause-range
finish-best-requires-clause-range c =
    let so = c.loop-j.invariant in
    rw c.split_at.ensures.front (All-take IsResidual c.loop-j.long c.loop-j.rest.now so.priced.1.range)

pub finish-best-requires-clause-best : goal.finish-best-requires-clause-best
unfolding part
finish-best-requires-clause-best c =
    let so = c.loop-j.invariant in let p = c.args.partition_order in let j = c.loop-j.j in let n = c.power-count.result in
    let within : n + j < length c.args.table.now = entry_within p j n c.args.residual.now.partition_order _ c.requires.within c.power-count.ensures c.loop-j-test.true c.requires.table in
    let read = rw c.power-count.ensures at (c.index-table-count.is ∙ get_or_default c.args.table.now (n + j) c.index-table-count.result 0 within) in
    rw (c.split_at.ensures.front, so.rest, so.long, read) (c.requires.entries p j c.requires.within (index_below j n p c.power-count.ensures c.loop-j-test.true))

pub finish-best-requires-clause-width : goal.finish-best-requires-clause-width
unfolding part
finish-best-requires-clause-width c =
    let so = c.loop-j.invariant in let p = c.args.partition_order in let j = c.loop-j.j in
    rw (c.split_at.ensures.front, so.rest, so.long, c.power-count.ensures) (c.requires.widths p j (from_none p) c.requires.within (index_below j c.power-count.result p c.power-count.ensures c.loop-j-test.true)).0

pub finish-best-requires-clause-small_width : goal.finish-best-requires-clause-small_width
finish-best-requires-clause-small_width c =
    let p = c.args.partition_order in let j = c.loop-j.j in
    rw c.power-count.ensures (c.requires.widths p j (from_none p) c.requires.within (index_below j c.power-count.result p c.power-count.ensures c.loop-j-test.true)).1

pub loop-j-preserved : goal.loop-j-preserved
loop-j-preserved c =
    let so = c.loop-j.invariant in let r = c.args.residual.now in
    let p = c.args.partition_order in let j = c.loop-j.j in
    let n = length r.values.now + r.order in
    let m = c.power-count.result - (j + 1) in
    let halves = halves_at r.order r.values.now r.partition_order p c.requires.within r.halves in
    let priced = rw (one_left c.power-count.result j c.loop-j-test.true) at so.priced.1 in
    let front = c.split_at.ensures.front in
    let done = so.priced.0 in
    record {
      priced = (
        done ++ c.finish-best.result.coding ∷ [],
        rw (c.from-parameter_bits.ensures, c.parameter_bits.ensures.bits, c.split_at.ensures.back)
            (priced_more _ _ _ _ _ done _ _ m _ _ _ (four_or_five c.args.method) priced
            (rw front at c.finish-best.ensures.least) (rw front at c.finish-best.ensures.bits) (rw front at c.finish-best.ensures.small)),
      );
      rest = next_rest r.order n p j c.loop-j.long r.values.now _ _ so.long so.rest c.split_at.ensures.back;
      long = next_long r.order n p j halves.room;
    }

pub returns-clause-least : goal.returns-clause-least
returns-clause-least c =
    let none = none_left c.power-count.result c.loop-j.j c.loop-j-test.false in
    let so = c.loop-j.invariant.priced in
    record {
      one = so.0;
      least = rw c.power-count.ensures at (priced_least _ _ _ _ _ _ _ _ _ _ none so.1);
      is = priced_bits _ _ _ _ _ _ _ _ _ _ none so.1;
    }

pub returns-clause-small : goal.returns-clause-small
returns-clause-small c =
    let r = c.args.residual.now in
    priced_small _ _ _ _ r.values.now _ _ _ _ _ r.order c.args.partition_order r.partition_order c.loop-j.invariant.priced.1 r.few c.requires.within r.most c.power-count.ensures

pub split_at-requires : goal.split_at-requires
split_at-requires c =
    let r = c.args.residual.now in let so = c.loop-j.invariant in
    long_within r.order r.values.now c.args.partition_order c.loop-j.j c.power-count.result c.loop-j.long c.power-count.ensures c.loop-j-test.true so.long r.values.now _ refl so.rest

pub finish-best-requires-clause-few : goal.finish-best-requires-clause-few
finish-best-requires-clause-few c =
    let r = c.args.residual.now in let so = c.loop-j.invariant in
    rw c.split_at.ensures.front_len (long_few r.order r.values.now c.args.partition_order c.loop-j.j c.power-count.result c.loop-j.long c.power-count.ensures c.loop-j-test.true so.long r.few)
