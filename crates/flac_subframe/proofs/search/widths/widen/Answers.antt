use Rattle.std.proofs.Common.{arith, ◌≡◌, ◌+◌, ◌-◌, ◌≤◌, ◌^◌, ℕ, subst}
use Rattle.std.proofs.lemmas.Nat.{pow_pos}
use Rattle.flac_subframe.proofs.lemmas.search.Greater.{WidthsFrom, widths_lowest, widths_more}
use Rattle.flac_subframe.proofs.search.widths.widen.Goals as goal

pub loop-at-init : goal.loop-at-init
loop-at-init c = record {
  within = omega arith;
  some = omega (arith, pow_pos c.args.residual.now.partition_order);
  widths = rw c.power-at.ensures (widths_lowest c.args.residual.now.order c.args.residual.now.values.now c.args.residual.now.partition_order c.args.widths.now c.requires.finest);
}

pub loop-at-preserved : goal.loop-at-preserved
loop-at-preserved c =
    let i : ℕ = c.loop-at.at - 1 in
    let e : c.loop-at.at ≡ i + 1 = omega arith in
    let so = subst (λ (n : ℕ). WidthsFrom c.args.residual.now.order c.args.residual.now.values.now c.args.residual.now.partition_order n c.loop-at.widths) e c.loop-at.invariant.widths in
    record {
      within = omega arith;
      some = omega arith;
      widths = rw c.max.ensures (widths_more c.args.residual.now.order c.args.residual.now.values.now c.args.residual.now.partition_order c.loop-at.widths i (omega arith) (omega arith) (omega arith) c.args.residual.now.halves so);
    }

pub returns-clause-widths : goal.returns-clause-widths
returns-clause-widths c = λ p j low high b.
    let e : c.loop-at.at ≡ 1 = omega arith in
    let h : c.loop-at.at ≤ 2 ^ p + j = omega (arith, pow_pos p) in
    (c.loop-at.invariant.widths.done p j high b h, c.loop-at.invariant.widths.small p j high b h)
