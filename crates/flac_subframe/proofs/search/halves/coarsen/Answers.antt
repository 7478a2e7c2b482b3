use Rattle.std.proofs.Common.{arith, ◌≡◌, ◌∙◌, ◌-◌, ◌*◌, ◌^◌, ◌≤◌, ◌<◌, ℕ, sym, ap}
use Rattle.flac_subframe.proofs.lemmas.search.Levels.{costs_small}
use Rattle.flac_subframe.proofs.lemmas.search.Places.{power_le}
use Rattle.flac_subframe.proofs.lemmas.search.Splits.{power_more, halves_at, paired}
use Rattle.flac_subframe.proofs.search.halves.coarsen.Goals as goal

some : (level low : ℕ) → low < level → 0 < level
some level low h = omega arith

within_more : (level high : ℕ) → level ≤ high → level - 1 ≤ high
within_more level high h = omega arith

coarse_more : (level low : ℕ) → low < level → low ≤ level - 1
coarse_more level low h = omega arith

same_level : (level low : ℕ) → low ≤ level → level ≤ low → level ≡ low
same_level level low h g = omega arith

none : 0 < 31
none = omega arith

room : (a b n : ℕ) → a ≤ b → b ≤ n → a ≤ n
room a b n h g = omega arith

pub pair-requires : goal.pair-requires
pair-requires c =
    let r = c.args.residual.now in let l = c.loop-level.level in let so = c.loop-level.invariant in
    let one = some l c.args.partition_order c.loop-level-test.true in
    let twice : 2 * c.power.result ≡ 2 ^ l = ap (λ (n : ℕ). 2 * n) c.power.ensures ∙ sym (power_more l one) in
    record {
      room = rw (twice, c.loop-level.auto.sums) (room _ _ _ (power_le l r.partition_order so.within) c.requires.places);
      small = λ j h. costs_small r.order 0 l r.values.now c.loop-level.sums none r.few r.range so.costs j (rw twice at h);
    }

pub loop-level-preserved : goal.loop-level-preserved
loop-level-preserved c =
    let r = c.args.residual.now in let l = c.loop-level.level in let so = c.loop-level.invariant in
    let one = some l c.args.partition_order c.loop-level-test.true in
    let half = halves_at r.order r.values.now r.partition_order l so.within r.halves in
    record {
      within = within_more l r.partition_order so.within;
      coarse = coarse_more l c.args.partition_order c.loop-level-test.true;
      costs = paired r.order 0 l r.values.now c.loop-level.sums c.pair.new.sums one half so.costs (λ i b. c.pair.ensures i (rw c.power.ensures b));
    }

pub returns-clause-costs : goal.returns-clause-costs
returns-clause-costs c =
    let e = same_level c.loop-level.level c.args.partition_order c.loop-level.invariant.coarse c.loop-level-test.false in
    λ j h. rw e at c.loop-level.invariant.costs j h
