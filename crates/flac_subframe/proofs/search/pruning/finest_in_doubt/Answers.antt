use Rattle.std.proofs.Common.{arith, ◌≡◌, ◌∙◌, ◌+◌, ◌-◌, ℕ, inl, inr, refl, length}
use Rattle.std.proofs.lemmas.Bool.{cases_lt, not-false}
use Rattle.flac_subframe.proofs.lemmas.search.Counts.{order_more}
use Rattle.flac_subframe.proofs.search.pruning.finest_in_doubt.Goals as goal

pub loop-partition_order-init : goal.loop-partition_order-init
loop-partition_order-init c = record { some = c.requires.fine; within = omega arith; dear = λ f m b. absurd (omega (arith, m.few, b)); sums = refl; widths = refl; priced = omega arith }

pub loop-partition_order-preserved : goal.loop-partition_order-preserved
loop-partition_order-preserved c =
    let so = c.loop-partition_order.invariant in
    let tried = c.is_order_too_dear-verdict in
    let n : ℕ = length c.args.residual.now.values.now in
    let d : ℕ = c.args.residual.now.partition_order - c.loop-partition_order.partition_order in
    let e : d + 1 ≡ c.args.residual.now.partition_order - (c.loop-partition_order.partition_order - 1) = omega arith in
    record {
      some = omega arith;
      within = omega arith;
      dear = λ f m b. elim (cases_lt c.loop-partition_order.partition_order f.partition_order) [
        | inl finer ↦ so.dear f m finer
        | inr not ↦ let e : f.partition_order ≡ c.loop-partition_order.partition_order = omega (arith, not, b) in tried.ensures.dear (not-false tried.result.dear c.if-not-verdict.false) f m e
      ];
      sums = tried.auto.sums ∙ so.sums;
      widths = tried.auto.widths ∙ so.widths;
      priced = rw (← e) (order_more n d c.loop-partition_order.priced tried.result.priced so.priced tried.ensures.few);
    }
