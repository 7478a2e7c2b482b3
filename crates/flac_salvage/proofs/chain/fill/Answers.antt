use Rattle.std.proofs.Common.{arith, sym, subst, length, set, length-set, ◌-◌, ◌∙◌}
use Rattle.flac_salvage.specs.inner.Values.{AreMost}
use Rattle.flac_salvage.proofs.Chains.{none_most, one_before}
use Rattle.flac_salvage.proofs.chain.fill.Goals as goal

pub back-init : goal.back-init
back-init c =
    let start = none_most c.args.limit (length c.args.frames.now) c.args.frames.now c.args.most.now (omega arith) in
    record { within = omega arith; same = c.requires; known = start.0; any = start.1 }

pub back-preserved : goal.back-preserved
back-preserved c =
    let i = c.back.invariant in
    let next = one_before c.args.limit (c.back.index - 1) c.back.index c.back.any c.most_with-first.result c.args.frames.now c.back.most (omega arith) i.within i.same i.known i.any c.most_with-first.ensures in
    record {
      within = omega arith;
      same = length-set c.back.most (c.back.index - 1) _ ∙ i.same;
      known = subst (λ k. AreMost c.args.limit c.args.frames.now (c.back.index - 1) (set c.back.most (c.back.index - 1) (record { first = c.most_with-first.result; any = k }))) (sym c.greater-any.ensures) next.0;
      any = c.greater-any.ensures ∙ next.1;
    }
