use Rattle.std.proofs.Common.{arith, ◌≡◌, ◌∙◌, ◌+◌, ◌-◌, ◌*◌, ◌<◌, ◌≤◌, ◌^◌, ℕ, inl, inr, refl, length}
use Rattle.std.proofs.lemmas.Bool.{cases_lt}
use Rattle.std.proofs.lemmas.List.{get_or-set_same, get_or-set_other}
use Rattle.std.proofs.lemmas.List.Elements.{All-take, All-drop}
use Rattle.flac_subframe.specs.search.inner.Halves.{part, start}
use Rattle.flac_subframe.proofs.lemmas.search.LowerBounds.{bound_start, bound_more, bound_end, bound_beside}
use Rattle.flac_subframe.proofs.lemmas.search.Turns.{long_within, long_few, all_rest, first_long, index_below, one_left, none_left, next_long, next_rest}
use Rattle.flac_subframe.proofs.lemmas.search.Folds.{segment_cost, segment_width}
use Rattle.flac_subframe.proofs.search.widths.leaves_of.Goals as goal

apart : (j i : ℕ) → j < i → j ≡ i → ⊥
apart j i less e = omega arith

last_one : (j i : ℕ) → j < i + 1 → i ≤ j → j ≡ i
last_one j i less more = omega arith

one_more : (i bound b : ℕ) → bound ≤ 2 ^ 21 * i → b ≤ 2 ^ 21 → bound + b ≤ 2 ^ 21 * (i + 1)
one_more i bound b so small = omega arith

up_to_end : (j m n k : ℕ) → j < m → n ≡ m → n ≤ k → j < k
up_to_end j m n k h is over = omega arith

pub returns-clause-small : goal.returns-clause-small
returns-clause-small c = λ j h. c.loop-j.invariant.small j (up_to_end j _ c.power-count.result c.loop-j.j h c.power-count.ensures c.loop-j-test.false)

pub returns-clause-costs : goal.returns-clause-costs
returns-clause-costs c = λ j h. c.loop-j.invariant.costs j (up_to_end j _ c.power-count.result c.loop-j.j h c.power-count.ensures c.loop-j-test.false)

pub bounds-widths-j : goal.bounds-widths-j
bounds-widths-j c = rw (c.loop-j.auto.widths, c.requires.places) (index_below c.loop-j.j c.power-count.result _ c.power-count.ensures c.loop-j-test.true)

pub bounds-sums-j : goal.bounds-sums-j
bounds-sums-j c = rw (c.loop-j.auto.sums, c.requires.sums) (index_below c.loop-j.j c.power-count.result _ c.power-count.ensures c.loop-j-test.true)

pub weigh-leaf-requires-clause-small : goal.weigh-leaf-requires-clause-small
weigh-leaf-requires-clause-small c =
    let so = c.loop-j.invariant in
    rw (c.split_at-in-loop-j.ensures.front, so.left) (All-take (λ n. n < 2 ^ 32) c.loop-j.long _ (All-drop (λ n. n < 2 ^ 32) _ c.args.residual.now.folds.now c.args.residual.now.small))

pub bound_part-bound-requires-clause-bits : goal.bound_part-bound-requires-clause-bits
bound_part-bound-requires-clause-bits c =
    let i = c.loop-j.j in let so = c.loop-j.invariant in
    let order = c.args.residual.now.order in let h = c.args.residual.now.partition_order in
    let rs = c.args.residual.now.values.now in
    let n = length rs + order in
    let value = rw (c.split_at-in-loop-j.ensures.front, so.left, so.long) at c.weigh-leaf.ensures.value in
    rw (c.split_at.ensures.front, so.rest, so.long) (value ∙ segment_cost 0 (start order n h i) (start order n h (i + 1)) rs c.args.residual.now.folds.now c.args.residual.now.unsigned)

pub bound_part-bound-requires-clause-width : goal.bound_part-bound-requires-clause-width
bound_part-bound-requires-clause-width c =
    let i = c.loop-j.j in let so = c.loop-j.invariant in
    let order = c.args.residual.now.order in let h = c.args.residual.now.partition_order in
    let rs = c.args.residual.now.values.now in
    let n = length rs + order in
    let least = rw (c.split_at-in-loop-j.ensures.front, so.left, so.long) at c.weigh-leaf.ensures.least in
    rw (c.split_at.ensures.front, so.rest, so.long) (segment_width c.weigh-leaf.result.0 (start order n h i) (start order n h (i + 1)) rs c.args.residual.now.folds.now c.args.residual.now.unsigned least)

pub loop-j-preserved : goal.loop-j-preserved
unfolding part
loop-j-preserved c =
    let i = c.loop-j.j in let so = c.loop-j.invariant in
    let order = c.args.residual.now.order in let h = c.args.residual.now.partition_order in
    let rs = c.args.residual.now.values.now in
    let ns = c.args.residual.now.folds.now in
    let n = length rs + order in
    let w = c.weigh-leaf.result.0 in
    let b = c.weigh-leaf.result.1 in
    let m = c.power-count.result - (i + 1) in
    let e = one_left c.power-count.result i c.loop-j-test.true in
    let bound = rw e at so.bound in
    let front = c.split_at.ensures.front in
    let here : i < 2 ^ h = index_below i c.power-count.result h c.power-count.ensures c.loop-j-test.true in
    let in_widths : i < length c.loop-j.widths = rw (c.loop-j.auto.widths, c.requires.places) here in
    let in_sums : i < length c.loop-j.sums = rw (c.loop-j.auto.sums, c.requires.sums) here in
    let least = rw (c.split_at-in-loop-j.ensures.front, so.left, so.long) at c.weigh-leaf.ensures.least in
    let value = rw (c.split_at-in-loop-j.ensures.front, so.left, so.long) at c.weigh-leaf.ensures.value in
    record {
      bound = λ w. rw c.split_at.ensures.back (bound_more w _ _ _ _ _ _ m _ _ (rw front at c.bound_part-bound.ensures.rice) (rw front at c.bound_part-bound.ensures.escape) (bound w));
      rest = next_rest order n h i c.loop-j.long rs _ _ so.long so.rest c.split_at.ensures.back;
      left = next_rest order n h i c.loop-j.long ns _ _ so.long so.left c.split_at-in-loop-j.ensures.back;
      long = next_long order n h i c.args.residual.now.halves.room;
      low = one_more i _ _ so.low c.bound_part-bound.ensures.small;
      done = λ j less. elim (cases_lt j i) [
        | inl d ↦ rw (get_or-set_other c.loop-j.widths i j w 0 (apart j i d)) (so.done j d)
        | inr d ↦ let e = last_one j i less d in
            rw (e, get_or-set_same c.loop-j.widths i w 0 in_widths) (segment_width w (start order n h i) (start order n h (i + 1)) rs ns c.args.residual.now.unsigned least)
      ];
      small = λ j less. elim (cases_lt j i) [
        | inl d ↦ rw (get_or-set_other c.loop-j.widths i j w 0 (apart j i d)) (so.small j d)
        | inr d ↦ let e = last_one j i less d in rw (e, get_or-set_same c.loop-j.widths i w 0 in_widths) c.weigh-leaf.ensures.narrow
      ];
      costs = λ j less. elim (cases_lt j i) [
        | inl d ↦ get_or-set_other c.loop-j.sums i j b 0 (apart j i d) ∙ so.costs j d
        | inr d ↦ let e = last_one j i less d in
            rw e (get_or-set_same c.loop-j.sums i b 0 in_sums ∙ value ∙ segment_cost 0 (start order n h i) (start order n h (i + 1)) rs ns c.args.residual.now.unsigned)
      ];
    }

pub returns-clause-widths : goal.returns-clause-widths
returns-clause-widths c = λ j h. c.loop-j.invariant.done j (up_to_end j _ c.power-count.result c.loop-j.j h c.power-count.ensures c.loop-j-test.false)

pub returns-clause-bound : goal.returns-clause-bound
returns-clause-bound c =
    let none = none_left c.power-count.result c.loop-j.j c.loop-j-test.false in
    let so = c.loop-j.invariant in
    bound_beside c.args.residual.now.order c.args.residual.now.partition_order c.args.residual.now.values.now c.loop-j.bound c.args.residual.now.halves
    (λ w cs long may. bound_end w _ _ _ c.args.residual.now.values.now c.loop-j.bound _ _ _ (so.bound w) cs (omega (arith, long, c.power-count.ensures)) may)

pub split_at-requires : goal.split_at-requires
split_at-requires c =
    let r = c.args.residual.now in let so = c.loop-j.invariant in
    long_within r.order r.values.now c.args.residual.now.partition_order c.loop-j.j c.power-count.result c.loop-j.long c.power-count.ensures c.loop-j-test.true so.long r.values.now _ refl so.rest

pub split_at-requires-in-loop-j : goal.split_at-requires-in-loop-j
split_at-requires-in-loop-j c =
    let r = c.args.residual.now in let so = c.loop-j.invariant in
    long_within r.order r.values.now c.args.residual.now.partition_order c.loop-j.j c.power-count.result c.loop-j.long c.power-count.ensures c.loop-j-test.true so.long r.folds.now _ r.long so.left

pub weigh-leaf-requires-clause-few : goal.weigh-leaf-requires-clause-few
weigh-leaf-requires-clause-few c =
    let r = c.args.residual.now in let so = c.loop-j.invariant in
    rw c.split_at-in-loop-j.ensures.front_len (long_few r.order r.values.now c.args.residual.now.partition_order c.loop-j.j c.power-count.result c.loop-j.long c.power-count.ensures c.loop-j-test.true so.long r.few)

pub bound_part-bound-requires-clause-few : goal.bound_part-bound-requires-clause-few
bound_part-bound-requires-clause-few c =
    let r = c.args.residual.now in let so = c.loop-j.invariant in
    rw c.split_at.ensures.front_len (long_few r.order r.values.now c.args.residual.now.partition_order c.loop-j.j c.power-count.result c.loop-j.long c.power-count.ensures c.loop-j-test.true so.long r.few)

pub bound_part-bound-requires-clause-small_width : goal.bound_part-bound-requires-clause-small_width
bound_part-bound-requires-clause-small_width c = c.weigh-leaf.ensures.narrow

from_none : (n : ℕ) → 0 ≤ n
from_none n = omega arith

none_below : (j : ℕ) → j < 0 → ⊥
none_below j h = omega arith

left_at_first : (n : ℕ) → n ≡ n - 0
left_at_first n = omega arith

pub loop-j-init : goal.loop-j-init
loop-j-init c =
    let r = c.args.residual.now in let order = r.order in let rs = r.values.now in let h = r.partition_order in
    let n = length rs + order in
    record {
      bound = λ w. rw (← left_at_first c.power-count.result) (bound_start w _ _ c.power-count.result rs);
      rest = all_rest order n h rs;
      left = all_rest order n h r.folds.now;
      long = first_long order n h;
      low = from_none 0;
      done = λ j h. absurd (none_below j h);
      small = λ j h. absurd (none_below j h);
      costs = λ j h. absurd (none_below j h);
    }
