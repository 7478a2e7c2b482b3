use Rattle.std.proofs.Common.{arith, ◌≡◌, ◌∙◌, ◌+◌, ◌<◌, ◌^◌, ℕ, ap, inl, inr, length, drop}
use Rattle.std.proofs.lemmas.Bool.{cases_lt}
use Rattle.std.proofs.lemmas.List.{drop-drop, get_or-set_same, get_or-set_other}
use Rattle.std.proofs.lemmas.List.Elements.{All-take, All-drop}
use Rattle.flac_subframe.specs.search.inner.Halves.{part, start}
use Rattle.flac_subframe.proofs.lemmas.search.Splits.{start_next, start_rises, start_none}
use Rattle.flac_subframe.proofs.lemmas.search.Folds.{segment_cost}
use Rattle.flac_subframe.proofs.search.halves.price_of.Goals as goal

pub loop-sum-init : goal.loop-sum-init
loop-sum-init c = record {
  rest = start_none c.args.residual.now.order (length c.args.residual.now.values.now + c.args.residual.now.order) c.args.residual.now.partition_order c.args.residual.now.folds.now;
  long = omega arith;
  done = λ j h. absurd (omega arith);
}

pub rice_bits_of-requires-clause-bounded : goal.rice_bits_of-requires-clause-bounded
rice_bits_of-requires-clause-bounded c =
    let so = c.loop-sum.invariant in
    rw (c.split_at.ensures.front, so.rest) (All-take (λ n. n < 2 ^ c.args.width) c.loop-sum.long _ (All-drop (λ n. n < 2 ^ c.args.width) _ c.args.residual.now.folds.now c.requires.bounded))

pub rice_bits_of-requires-clause-small : goal.rice_bits_of-requires-clause-small
rice_bits_of-requires-clause-small c =
    let so = c.loop-sum.invariant in
    rw (c.split_at.ensures.front, so.rest) (All-take (λ n. n < 2 ^ 32) c.loop-sum.long _ (All-drop (λ n. n < 2 ^ 32) _ c.args.residual.now.folds.now c.args.residual.now.small))

pub loop-sum-preserved : goal.loop-sum-preserved
unfolding part
loop-sum-preserved c =
    let i = c.loop-sum.sum-index in let so = c.loop-sum.invariant in
    let order = c.args.residual.now.order in let h = c.args.residual.now.partition_order in
    let n = length c.args.residual.now.values.now + order in
    let ns = c.args.residual.now.folds.now in
    let next : start order n h i + c.loop-sum.long ≡ start order n h (i + 1) = omega (arith, so.long, start_rises order n h i) in
    let value = rw (c.split_at.ensures.front, so.rest, so.long) at c.rice_bits_of.ensures in
    record {
      rest = c.split_at.ensures.back ∙ rw so.rest (drop-drop c.loop-sum.long (start order n h i) ns) ∙ ap (λ (k : ℕ). drop k ns) next;
      long = omega (arith, start_next order n h i c.args.residual.now.halves.room, start_rises order n h (i + 1));
      done = λ j b. elim (cases_lt j i) [
        | inl d ↦ get_or-set_other c.loop-sum.sums i j c.rice_bits_of.result 0 (λ e. omega arith) ∙ so.done j d
        | inr d ↦ let e : j ≡ i = omega arith in
            rw e (get_or-set_same c.loop-sum.sums i c.rice_bits_of.result 0 (omega arith) ∙ value ∙ segment_cost c.args.parameter (start order n h i) (start order n h (i + 1)) c.args.residual.now.values.now ns c.args.residual.now.unsigned)
      ];
    }
