use Rattle.std.proofs.Common.{pos, arith}
use Rattle.flac_subframe.specs.format.Numbers.{sample_at}
use Rattle.flac_subframe.proofs.lemmas.format.Scaling.{product_fits, product_is, scaled_more, scaled_all, scaled_none}
use Rattle.flac_subframe.proofs.format.subframe.scale.Goals as goal

pub overflow_mul-place : goal.overflow_mul-place
overflow_mul-place c =
    let i = c.loop-place.place-index in
    product_fits c.args.wasted c.requires.wasted (sample_at c.args.samples.now i) (c.requires.small i (pos 0) (omega (arith, c.loop-place.auto.samples, c.loop-place-test.true))) _ _ (c.loop-place.invariant.after i (omega arith)) c.power_of_two-power.ensures

pub loop-place-preserved : goal.loop-place-preserved
loop-place-preserved c =
    let i = c.loop-place.place-index in
    scaled_more c.args.wasted c.args.samples.now c.loop-place.samples i _ (omega (arith, c.loop-place.auto.samples, c.loop-place-test.true)) c.loop-place.invariant
    (product_is c.args.wasted c.requires.wasted (sample_at c.args.samples.now i) (c.requires.small i (pos 0) (omega (arith, c.loop-place.auto.samples, c.loop-place-test.true))) _ _ (c.loop-place.invariant.after i (omega arith)) c.power_of_two-power.ensures)

pub returns : goal.returns
returns c = scaled_all c.args.wasted c.args.samples.now c.loop-place.samples c.loop-place.place-index c.loop-place.auto.samples (omega (arith, c.loop-place-test.false)) c.loop-place.invariant

pub returns-then-wasted-eq0 : goal.returns-then-wasted-eq0
returns-then-wasted-eq0 c = scaled_none c.args.wasted c.args.samples.now c.if-wasted-eq0.true
