use Rattle.std.proofs.Common.{arith, ◌≡◌, ◌∙◌, ◌<◌, ◌+◌, pos, length, sym, to_z, of_z, w64, ◌-ℤ◌}
use Rattle.std.proofs.lemmas.Int.{ints}
use Rattle.std.proofs.lemmas.List.{take_more_set}
use Rattle.std.proofs.lemmas.List.FromFn.{map-range_with_len_more}
use Rattle.flac_subframe.specs.format.Numbers.{sample_at}
use Rattle.flac_subframe.specs.format.Bodies.{difference}
use Rattle.flac_subframe.proofs.lemmas.format.Differences.{difference_is}
use Rattle.flac_subframe.proofs.format.leaving.take_linear.Goals as goal

pub overflow_sub-values : goal.overflow_sub-values
overflow_sub-values c =
    let fit = c.requires.fits (length c.args.coefficients.now + c.loop-index.index) (pos 0) (omega arith) in
    omega (arith, ints, fit.low, fit.high, c.predict_linear.ensures.bound)

pub loop-index-preserved : goal.loop-index-preserved
loop-index-preserved c =
    let cs = c.args.coefficients.now in let shift = c.args.shift in let s = c.args.samples.now in let j = c.loop-index.index in let p = c.predict_linear.result in
    let v = to_z w64 (of_z w64 (to_z w64 (of_z w64 (sample_at s (length cs + j))) -ℤ to_z w64 (of_z w64 p))) in
    let within : j < length c.loop-index.values = omega arith in
    let e : v ≡ difference cs shift s j = difference_is cs shift s j p (omega arith) (c.requires.fits (length cs + j) (pos 0) (omega arith)) c.predict_linear.ensures.value c.predict_linear.ensures.bound in
    take_more_set c.loop-index.values j v within ∙ rw (c.loop-index.invariant, e) (sym (map-range_with_len_more (difference cs shift s) 0 j j (omega arith)))
