use Rattle.std.proofs.Common.{arith, ◌≡◌, ◌∙◌, ◌+◌, ◌-◌, ◌*◌, ◌^◌, ◌≤◌, ◌<◌, ℕ, true, false, inl, inr, refl, sym, ap, min, IsTrue, get_or}
use Rattle.std.proofs.lemmas.Bool.{cases_lt}
use Rattle.flac_subframe.specs.search.inner.Entry.{entry_number}
use Rattle.flac_subframe.proofs.lemmas.search.Levels.{half_long, level_none, costs_small}
use Rattle.flac_subframe.proofs.lemmas.search.Places.{power_le}
use Rattle.flac_subframe.proofs.lemmas.search.Splits.{power_more, halves_at, paired, entry_kept}
use Rattle.flac_subframe.proofs.search.halves.pass.Goals as goal

below_32 : (k : ℕ) → k < 31 → k < 32
below_32 k h = omega arith

enough : (a b : ℕ) → a ≡ b → b ≤ a
enough a b e = omega arith

same_order : (p high : ℕ) → high ≤ p → p ≤ high → p ≡ high
same_order p high g h = omega arith

below : (l high most : ℕ) → l ≤ high → high ≤ most → l - 1 ≤ most
below l high most h g = omega arith

above : (l p : ℕ) → l - 1 < p → l ≤ p
above l p h = omega arith

from_none : (l p : ℕ) → l ≤ 0 → l ≤ p
from_none l p h = omega arith

half_enough : (a b n : ℕ) → a ≤ b → 2 * b ≤ n → a ≤ n
half_enough a b n h g = omega arith

in_half : (l i : ℕ) → 0 < l → i < 2 ^ (l - 1) → i < 2 ^ l
in_half l i some h = omega (arith, power_more l some)

past_half : (l j : ℕ) → 0 < l → j < 2 ^ (l - 1) → 2 ^ (l - 1) + j < 2 ^ l
past_half l j some h = omega (arith, power_more l some)

untrue : IsTrue false → ⊥
untrue t = cc

no : true ≡ false → ⊥
no e = cc

pub gains-requires : goal.gains-requires
gains-requires c =
    let r = c.args.residual.now in let k = c.args.parameter in
    let long = half_long c.power-first.result c.args.table.now (rw c.power-first.ensures c.requires.table) ∙ c.power-first.ensures in
    record {
      few = below_32 k c.requires.parameter;
      places = rw long (enough _ _ c.requires.sums);
      small = λ j h. costs_small r.order k r.partition_order r.values.now c.args.sums.now c.requires.parameter r.few r.range c.requires.costs j (rw long at h);
    }

pub returns-then-not-gains : goal.returns-then-not-gains
returns-then-not-gains c =
    let f = c.power-first.result in
    let none = level_none f c.args.parameter c.args.sums.now c.args.table.now (rw c.power-first.ensures c.requires.table) (c.gains.ensures.none c.if-not-gains.true) in
    record {
      kept = refl;
      entries = λ t. absurd (untrue t);
      same = λ f. refl;
      none = λ f j h. rw (c.power-first.ensures, c.requires.costs j h) at (none j (rw c.power-first.ensures h));
    }

pub note_level-requires : goal.note_level-requires
note_level-requires c =
    let r = c.args.residual.now in let k = c.args.parameter in
    record {
      few = below_32 k c.requires.parameter;
      most = r.most;
      sums = enough _ _ c.requires.sums;
      small = costs_small r.order k r.partition_order r.values.now c.args.sums.now c.requires.parameter r.few r.range c.requires.costs;
      table = c.requires.table;
    }

pub loop-level-init : goal.loop-level-init
loop-level-init c =
    let k = c.args.parameter in let high = c.args.residual.now.partition_order in
    let n = c.note_level.ensures in
    record {
      within = enough high high refl;
      costs = c.requires.costs;
      noted = λ p j g h b. let is = same_order p high g h in
          rw is (let b' : j < 2 ^ high = rw is at b in n.level j b' ∙ ap (λ s. min (get_or c.args.table.now (2 ^ high + j) 0) (entry_number k s)) (c.requires.costs j b'));
      rest = λ i h. n.others i (inl h);
    }

pub pair-requires : goal.pair-requires
pair-requires c =
    let r = c.args.residual.now in let k = c.args.parameter in let l = c.loop-level.level in let so = c.loop-level.invariant in
    let twice : 2 * c.power.result ≡ 2 ^ l = ap (λ (n : ℕ). 2 * n) c.power.ensures ∙ sym (power_more l c.loop-level-test.true) in
    record {
      room = rw (twice, c.loop-level.auto.sums ∙ c.requires.sums) (power_le l r.partition_order so.within);
      small = λ j h. costs_small r.order k l r.values.now c.loop-level.sums c.requires.parameter r.few r.range so.costs j (rw twice at h);
    }

pub note_level-requires-in-loop-level : goal.note_level-requires-in-loop-level
note_level-requires-in-loop-level c =
    let r = c.args.residual.now in let k = c.args.parameter in let l = c.loop-level.level in let m = l - 1 in
    let high = r.partition_order in let so = c.loop-level.invariant in
    let half = halves_at r.order r.values.now high l so.within r.halves in
    let costs = paired r.order k l r.values.now c.loop-level.sums c.pair.new.sums c.loop-level-test.true half so.costs (λ i b. c.pair.ensures i (rw c.power.ensures b)) in
    record {
      few = below_32 k c.requires.parameter;
      most = below l high 15 so.within r.most;
      sums = rw (c.pair.auto.sums ∙ c.loop-level.auto.sums ∙ c.requires.sums) (power_le m high (below l high high so.within (enough high high refl)));
      small = costs_small r.order k m r.values.now c.pair.new.sums c.requires.parameter r.few r.range costs;
      table = rw (← power_more l c.loop-level-test.true, c.loop-level.auto.table ∙ c.note_level.auto.table) (half_enough _ _ _ (power_le l high so.within) c.requires.table);
    }

pub loop-level-preserved : goal.loop-level-preserved
loop-level-preserved c =
    let r = c.args.residual.now in let k = c.args.parameter in let l = c.loop-level.level in let m = l - 1 in
    let high = r.partition_order in let so = c.loop-level.invariant in
    let half = halves_at r.order r.values.now high l so.within r.halves in
    let some = c.loop-level-test.true in
    let costs = paired r.order k l r.values.now c.loop-level.sums c.pair.new.sums some half so.costs (λ i b. c.pair.ensures i (rw c.power.ensures b)) in
    let n = c.note_level-in-loop-level.ensures in
    record {
      within = below l high high so.within (enough high high refl);
      costs = costs;
      noted = λ p j g h b. elim (cases_lt m p) [
        | inl more ↦ entry_kept c.loop-level.table c.note_level-in-loop-level.new.table m p j n.others more ∙ so.noted p j (above l p more) h b
        | inr same ↦ let is : p ≡ m = same_order p m g same in
            rw is (let b' : j < 2 ^ m = rw is at b in n.level j b' ∙ rw (costs j b', so.rest (2 ^ m + j) (past_half l j some b')) refl)
      ];
      rest = λ i h. n.others i (inl h) ∙ so.rest i (in_half l i some h);
    }

pub returns : goal.returns
returns c = record {
  kept = c.loop-level.auto.table ∙ c.note_level.auto.table;
  entries = λ t p j h b. c.loop-level.invariant.noted p j (from_none c.loop-level.level p c.loop-level-test.false) h b;
  same = λ f. absurd (no f);
  none = λ f. absurd (no f);
}
