use Rattle.std.proofs.Common.{arith, ◌≡◌, ◌∙◌, refl, ◌+◌, ◌-◌, ◌*◌, ◌≤◌, ◌<◌, ◌^◌, ℤ, List, ℕ, ap, sym, Fits, w64, length, drop, take, map, All}
use Rattle.std.proofs.lemmas.List.{drop-map, length-map}
use Rattle.std.proofs.lemmas.List.Elements.{All-take, All-drop}
use Rattle.flac_bits.specs.Rice.{IsResidual, folded}
use Rattle.flac_subframe.proofs.lemmas.search.Folds.{folds_small}
use Rattle.flac_subframe.proofs.lemmas.search.LowerBounds.{bound_start, bound_more, bound_end, bound_of_all, bound_of_last}
use Rattle.flac_subframe.specs.search.inner.Halves.{part, start}
use Rattle.flac_subframe.proofs.lemmas.search.Places.{power_le}
use Rattle.flac_subframe.proofs.lemmas.search.Turns.{rest_within, long_within, long_few, all_rest, first_long, index_below, entry_within, one_left, none_left, next_long, next_rest}
use Rattle.flac_subframe.proofs.search.pruning.bound_parts.Goals as goal

le : (n : ℕ) → n ≤ n
le n = omega arith

one_more : (i bound b : ℕ) → bound ≤ 2 ^ 21 * i → b ≤ 2 ^ 21 → bound + b ≤ 2 ^ 21 * (i + 1)
one_more i bound b so small = omega arith

less : (a b c : ℕ) → a < b → b ≤ c → a < c
less a b c h g = omega arith

pub bounds-sums-j : goal.bounds-sums-j
bounds-sums-j c = less _ _ _ (index_below c.loop-j.j c.power-count.result _ c.power-count.ensures c.loop-j-test.true) c.requires.places

pub bounds-widths-count : goal.bounds-widths-count
bounds-widths-count c =
    let h = c.args.residual.now.partition_order in
    entry_within h c.loop-j.j c.power-count.result h _ (le h) c.power-count.ensures c.loop-j-test.true c.requires.widths_long

pub bound_closely-bits-requires-clause-bits : goal.bound_closely-bits-requires-clause-bits
unfolding part
bound_closely-bits-requires-clause-bits c =
    let so = c.loop-j.invariant in
    let b = index_below c.loop-j.j c.power-count.result c.args.residual.now.partition_order c.power-count.ensures c.loop-j-test.true in
    rw (c.split_at.ensures.front, so.rest, so.long) (c.requires.costs c.loop-j.j b)

pub bound_closely-bits-requires-clause-width : goal.bound_closely-bits-requires-clause-width
unfolding part
bound_closely-bits-requires-clause-width c =
    let so = c.loop-j.invariant in
    let b = index_below c.loop-j.j c.power-count.result c.args.residual.now.partition_order c.power-count.ensures c.loop-j-test.true in
    rw (c.split_at.ensures.front, so.rest, so.long, c.power-count.ensures) (c.requires.widths c.args.residual.now.partition_order c.loop-j.j (le c.args.residual.now.partition_order) (le c.args.residual.now.partition_order) b).0

pub bound_closely-bits-requires-clause-small_width : goal.bound_closely-bits-requires-clause-small_width
bound_closely-bits-requires-clause-small_width c =
    let b = index_below c.loop-j.j c.power-count.result c.args.residual.now.partition_order c.power-count.ensures c.loop-j-test.true in
    rw c.power-count.ensures (c.requires.widths c.args.residual.now.partition_order c.loop-j.j (le c.args.residual.now.partition_order) (le c.args.residual.now.partition_order) b).1

pub bound_closely-bits-requires-clause-small_folds : goal.bound_closely-bits-requires-clause-small_folds
bound_closely-bits-requires-clause-small_folds c =
    let so = c.loop-j.invariant in
    let from : ℕ = start c.args.residual.now.order (length c.args.residual.now.values.now + c.args.residual.now.order) c.args.residual.now.partition_order c.loop-j.j in
    let rest = drop from c.args.residual.now.values.now in
    let all : All (λ n. n < 2 ^ 32) (take c.loop-j.long (map folded rest)) = All-take (λ n. n < 2 ^ 32) c.loop-j.long (map folded rest) (folds_small rest (All-drop IsResidual from c.args.residual.now.values.now c.args.residual.now.range)) in
    rw (c.split_at-in-loop-j.ensures.front, so.left, so.rest) all

pub loop-j-preserved : goal.loop-j-preserved
loop-j-preserved c =
    let so = c.loop-j.invariant in
    let j = c.loop-j.j in
    let n = length c.args.residual.now.values.now + c.args.residual.now.order in
    let m = c.power-count.result - (j + 1) in
    let bound = rw (one_left c.power-count.result j c.loop-j-test.true) at so.bound in
    let front = c.split_at.ensures.front in
    record {
      bound = λ w. rw c.split_at.ensures.back (bound_more w _ _ _ _ _ _ m _ _ (rw front at c.bound_closely-bits.ensures.rice) (rw front at c.bound_closely-bits.ensures.escape) (bound w));
      rest = next_rest c.args.residual.now.order n c.args.residual.now.partition_order j c.loop-j.long c.args.residual.now.values.now _ _ so.long so.rest c.split_at.ensures.back;
      left = c.split_at-in-loop-j.ensures.back ∙ rw so.left (drop-map folded c.loop-j.long c.loop-j.rest.now) ∙ ap (λ (l : List ℤ). map folded l) (sym c.split_at.ensures.back);
      long = next_long c.args.residual.now.order n c.args.residual.now.partition_order j c.args.residual.now.halves.room;
      small = one_more j _ _ so.small c.bound_closely-bits.ensures.small;
    }

pub returns-clause-all : goal.returns-clause-all
returns-clause-all c =
    let none = none_left c.power-count.result c.loop-j.j c.loop-j-test.false in
    let so = c.loop-j.invariant in
    bound_of_all c.args.residual.now.order c.args.residual.now.partition_order c.args.residual.now.values.now c.loop-j.bits c.args.residual.now.halves
    (λ w cs long may. bound_end w _ _ _ c.args.residual.now.values.now c.loop-j.bits _ _ _ (so.bound w) cs (omega (arith, long, c.power-count.ensures)) may)

pub returns-clause-last : goal.returns-clause-last
returns-clause-last c =
    let none = none_left c.power-count.result c.loop-j.j c.loop-j-test.false in
    let so = c.loop-j.invariant in
    bound_of_last c.args.residual.now.order c.args.residual.now.partition_order c.args.residual.now.values.now c.loop-j.bits
    (λ w cs long may. bound_end w _ _ _ c.args.residual.now.values.now c.loop-j.bits _ _ _ (so.bound w) cs (omega (arith, long, c.power-count.ensures)) may)

pub returns-then-bits-below-clause-all : goal.returns-then-bits-below-clause-all
returns-then-bits-below-clause-all c =
    let so = c.loop-j.invariant in
    bound_of_all c.args.residual.now.order c.args.residual.now.partition_order c.args.residual.now.values.now c.loop-j.bits c.args.residual.now.halves
    (λ w cs long may. bound_end w _ _ _ c.args.residual.now.values.now c.loop-j.bits _ _ _ (so.bound w) cs (omega (arith, long, c.power-count.ensures)) may)

pub returns-then-bits-below-clause-last : goal.returns-then-bits-below-clause-last
returns-then-bits-below-clause-last c =
    let so = c.loop-j.invariant in
    bound_of_last c.args.residual.now.order c.args.residual.now.partition_order c.args.residual.now.values.now c.loop-j.bits
    (λ w cs long may. bound_end w _ _ _ c.args.residual.now.values.now c.loop-j.bits _ _ _ (so.bound w) cs (omega (arith, long, c.power-count.ensures)) may)

pub split_at-requires : goal.split_at-requires
split_at-requires c =
    let r = c.args.residual.now in let so = c.loop-j.invariant in
    long_within r.order r.values.now c.args.residual.now.partition_order c.loop-j.j c.power-count.result c.loop-j.long c.power-count.ensures c.loop-j-test.true so.long r.values.now _ refl so.rest

pub split_at-requires-in-loop-j : goal.split_at-requires-in-loop-j
split_at-requires-in-loop-j c =
    let r = c.args.residual.now in let so = c.loop-j.invariant in
    rw (so.left, length-map c.loop-j.rest.now folded) (long_within r.order r.values.now c.args.residual.now.partition_order c.loop-j.j c.power-count.result c.loop-j.long c.power-count.ensures c.loop-j-test.true so.long r.values.now _ refl so.rest)

pub bound_closely-bits-requires-clause-few : goal.bound_closely-bits-requires-clause-few
bound_closely-bits-requires-clause-few c =
    let r = c.args.residual.now in let so = c.loop-j.invariant in
    rw c.split_at.ensures.front_len (long_few r.order r.values.now c.args.residual.now.partition_order c.loop-j.j c.power-count.result c.loop-j.long c.power-count.ensures c.loop-j-test.true so.long r.few)

pub bound_closely-bits-requires-clause-long : goal.bound_closely-bits-requires-clause-long
bound_closely-bits-requires-clause-long c = c.split_at-in-loop-j.ensures.front_len ∙ sym c.split_at.ensures.front_len

none_left_at_first : (n : ℕ) → n ≡ n - 0
none_left_at_first n = omega arith

pub loop-j-init : goal.loop-j-init
loop-j-init c =
    let r = c.args.residual.now in let order = r.order in let rs = r.values.now in let h = r.partition_order in
    let n = length rs + order in
    record {
      bound = λ w. rw (← none_left_at_first c.power-count.result) (bound_start w _ _ c.power-count.result rs);
      rest = all_rest order n h rs;
      left = r.unsigned;
      long = first_long order n h;
      small = le 0;
    }

some_less : (n m : ℕ) → n - m ≤ n
some_less n m = omega arith

fits_small : (i n bits b : ℕ) → i < n → n ≤ 2 ^ 15 → bits ≤ 2 ^ 21 * i → b ≤ 2 ^ 21 → Fits w64 (bits + b)
fits_small i n bits b h most so small = omega arith

pub overflow_sub-seen : goal.overflow_sub-seen
overflow_sub-seen c =
    let r = c.args.residual.now in
    rest_within r.order (length r.values.now + r.order) r.partition_order c.loop-j.j r.values.now _ c.loop-j.invariant.rest

pub overflow_sub-seen-2 : goal.overflow_sub-seen-2
overflow_sub-seen-2 c =
    let r = c.args.residual.now in
    rest_within r.order (length r.values.now + r.order) r.partition_order c.loop-j.j r.values.now _ c.loop-j.invariant.rest

pub returns-then-bits-below-clause-seen : goal.returns-then-bits-below-clause-seen
returns-then-bits-below-clause-seen c = some_less (length c.args.residual.now.values.now) (length c.loop-j.rest.now)

pub returns-clause-seen : goal.returns-clause-seen
returns-clause-seen c = some_less (length c.args.residual.now.values.now) (length c.loop-j.rest.now)

pub overflow_add-bits : goal.overflow_add-bits
overflow_add-bits c =
    let most = power_le c.args.residual.now.partition_order 15 c.args.residual.now.most in
    fits_small c.loop-j.j c.power-count.result _ _ c.loop-j-test.true (rw c.power-count.ensures most) c.loop-j.invariant.small c.bound_closely-bits.ensures.small
