use Rattle.std.proofs.Common.{arith, ◌≡◌, ◌∙◌, ◌<◌, ◌+◌, pos, length, sym, to_z, of_z, w64, ℤ, ◌-ℤ◌}
use Rattle.std.proofs.lemmas.Int.{ints}
use Rattle.flac_bits.specs.Signed.{FitsBits}
use Rattle.std.proofs.lemmas.List.{take_more_set}
use Rattle.std.proofs.lemmas.List.FromFn.{map-range_with_len_more}
use Rattle.flac_subframe.specs.format.Numbers.{sample_at}
use Rattle.flac_subframe.specs.format.Prediction.{fixed_coefficients}
use Rattle.flac_subframe.specs.format.Bodies.{difference}
use Rattle.flac_subframe.proofs.lemmas.format.Differences.{difference_at}
use Rattle.flac_subframe.proofs.lemmas.format.Nearest.{HoldsLast, predicted_after}
use Rattle.flac_subframe.proofs.format.leaving.take_order.Goals as goal

back : (x : ℤ) → FitsBits 33 x → to_z w64 (of_z w64 x) ≡ x
back x fit = omega (arith, ints, fit.low, fit.high)

pub overflow_sub-values : goal.overflow_sub-values
overflow_sub-values c =
    let fit = c.requires.fits (c.args.order + c.loop-index.index) (pos 0) (omega arith) in
    omega (arith, ints, fit.low, fit.high, c.predict_after.ensures.small)

pub loop-index-preserved : goal.loop-index-preserved
loop-index-preserved c =
    let o = c.args.order in let s = c.args.samples.now in let j = c.loop-index.index in let p = c.predict_after.result in
    let last : HoldsLast o s (o + j) c.sample_before-first.result c.sample_before-second.result c.sample_before-third.result c.sample_before-fourth.result = record {
      one = c.sample_before-first.ensures.value;
      two = c.sample_before-second.ensures.value;
      three = c.sample_before-third.ensures.value;
      four = c.sample_before-fourth.ensures.value;
    } in
    let one = back c.sample_before-first.result c.sample_before-first.ensures.fits in
    let two = back c.sample_before-second.result c.sample_before-second.ensures.fits in
    let three = back c.sample_before-third.result c.sample_before-third.ensures.fits in
    let four = back c.sample_before-fourth.result c.sample_before-fourth.ensures.fits in
    let value = rw (one, two, three, four) at c.predict_after.ensures.value in
    let is = value ∙ predicted_after o s (o + j) _ _ _ _ c.requires.order (omega arith) last in
    let v = to_z w64 (of_z w64 (to_z w64 (of_z w64 (sample_at s (o + j))) -ℤ to_z w64 (of_z w64 p))) in
    let within : j < length c.loop-index.values = omega arith in
    let e : v ≡ difference (fixed_coefficients o) 0 s j = difference_at o s j p c.requires.order (c.requires.fits (o + j) (pos 0) (omega arith)) is c.predict_after.ensures.small in
    take_more_set c.loop-index.values j v within ∙ rw (c.loop-index.invariant, e) (sym (map-range_with_len_more (difference (fixed_coefficients o) 0 s) 0 j j (omega arith)))
