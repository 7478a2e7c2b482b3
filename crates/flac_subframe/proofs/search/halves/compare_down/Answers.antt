use Rattle.std.proofs.Common.{arith, ◌≡◌, ◌∙◌, ◌+◌, ◌-◌, ◌≤◌, ◌<◌, ℕ, refl}
use Rattle.flac_subframe.specs.search.inner.Halves.{part}
use Rattle.flac_subframe.proofs.lemmas.search.Splits.{part_small}
use Rattle.flac_subframe.proofs.lemmas.search.Walks.{within_none, within_more, within_all, fallen, kept_down}
use Rattle.flac_subframe.proofs.search.halves.compare_down.Goals as goal

few_values : (n order : ℕ) → n + order ≤ 65535 → n ≤ 65535
few_values n order few = omega arith

le : (n : ℕ) → n ≤ n
le n = omega arith

back : (l : ℕ) → 0 < l → l - 1 + 1 ≡ l
back l some = omega arith

below_31 : (l f : ℕ) → 0 < l → l ≤ f → f ≤ 31 → l - 1 < 31
below_31 l f some h most = omega arith

below_32 : (k : ℕ) → k < 31 → k < 32
below_32 k h = omega arith

below_from : (l f : ℕ) → 0 < l → l ≤ f → l - 1 < f
below_from l f some h = omega arith

still_within : (l f : ℕ) → l ≤ f → l - 1 ≤ f
still_within l f h = omega arith

none_left : (l : ℕ) → l ≤ 0 → l ≡ 0
none_left l h = omega arith

pub loop-low-init : goal.loop-low-init
loop-low-init c = record {
  within = le c.args.from;
  entries = λ p j h b. within_none c.args.from (part c.args.residual.now.order c.args.residual.now.values.now p j) _ (c.requires.start p j h b);
}

pub take_row-requires : goal.take_row-requires
take_row-requires c = record {
  bounded = c.requires.bounded;
  parameter = below_31 c.loop-low.low c.args.from c.loop-low-test.true c.loop-low.invariant.within c.requires.from;
  places = c.loop-low.auto.sums ∙ c.requires.sums;
  leaves = c.requires.leaves;
  known = c.requires.known;
}

pub pass-requires : goal.pass-requires
pass-requires c = record {
  parameter = below_31 c.loop-low.low c.args.from c.loop-low-test.true c.loop-low.invariant.within c.requires.from;
  sums = c.take_row.auto.sums ∙ c.loop-low.auto.sums ∙ c.requires.sums;
  costs = c.take_row.ensures.costs;
  table = rw c.loop-low.auto.table c.requires.table;
}

pub loop-low-preserved : goal.loop-low-preserved
loop-low-preserved c =
    let l = c.loop-low.low in let k : ℕ = l - 1 in
    let r = c.args.residual.now in let so = c.loop-low.invariant in let some = c.loop-low-test.true in
    let small = below_31 l c.args.from some so.within c.requires.from in
    record {
      within = still_within l c.args.from so.within;
      entries = λ p j h b.
          rw (c.pass.ensures.entries c.if-not-pass.false p j h b)
          (within_more k c.args.from (part r.order r.values.now p j) _ (below_from l c.args.from some so.within) (part_small r.order k r.values.now p j small (few_values _ _ r.few) r.range) (below_32 k small) (rw (back l some) (so.entries p j h b)));
    }

pub returns-then-not-pass-clause-entries : goal.returns-then-not-pass-clause-entries
returns-then-not-pass-clause-entries c = λ p j g b.
    let l = c.loop-low.low in let k : ℕ = l - 1 in
    let r = c.args.residual.now in let h = r.partition_order in let so = c.loop-low.invariant in let some = c.loop-low-test.true in
    let small = below_31 l c.args.from some so.within c.requires.from in
    let few = few_values _ _ r.few in
    let none = c.if-not-pass.ensures.none refl in
    rw (c.if-not-pass.ensures.same refl) (fallen r.order h k r.values.now r.halves few small r.range c.loop-low.table none c.args.from (λ i d. rw (back l some) (so.entries h i (le h) d)) p j _ g b (below_from l c.args.from some so.within)
    (kept_down r.order h k r.values.now r.halves few small r.range c.loop-low.table none c.args.from (λ i d. rw (back l some) (so.entries h i (le h) d)) p j g b (rw (back l some) (so.entries p j g b))))

pub returns-clause-entries : goal.returns-clause-entries
returns-clause-entries c = λ p j h b.
    within_all c.args.from (part c.args.residual.now.order c.args.residual.now.values.now p j) _ (rw (none_left c.loop-low.low c.loop-low-test.false) at (c.loop-low.invariant.entries p j h b))

pub returns-clause-long : goal.returns-clause-long
returns-clause-long c = c.loop-low.auto.table
