use Rattle.std.proofs.Common.{arith, ◌≡◌, ◌∙◌, ◌<◌, ◌+◌, pos, length, sym, ap, to_z, of_z, w32, ◌-ℤ◌}
use Rattle.std.proofs.lemmas.Int.{ints}
use Rattle.std.proofs.lemmas.List.{take_more_set}
use Rattle.std.proofs.lemmas.List.FromFn.{map-range_with_len_more}
use Rattle.flac_subframe.specs.format.Numbers.{sample_at}
use Rattle.flac_subframe.specs.format.Prediction.{fixed_coefficients}
use Rattle.flac_subframe.specs.format.Bodies.{difference}
use Rattle.flac_bits.specs.Rice.{folded}
use Rattle.flac_subframe.proofs.lemmas.format.Folding.{fold_next}
use Rattle.flac_subframe.proofs.lemmas.format.Narrow.{narrow_at, narrow_residual, same_narrow}
use Rattle.flac_subframe.proofs.lemmas.format.Nearest.{HoldsLast, predicted_after}
use Rattle.flac_subframe.proofs.format.narrowed.take_narrow_order.Goals as goal

pub overflow_sub-value : goal.overflow_sub-value
overflow_sub-value c =
    let fit = c.requires.fits (c.args.order + c.loop-index.index) (pos 0) (omega arith) in
    omega (arith, ints, fit.low, fit.high, c.predict_narrow.ensures.small)

pub fold_narrow-requires : goal.fold_narrow-requires
fold_narrow-requires c = narrow_residual (sample_at c.args.samples.now (c.args.order + c.loop-index.index)) c.predict_narrow.result (c.requires.fits (c.args.order + c.loop-index.index) (pos 0) (omega arith)) c.predict_narrow.ensures.small

pub loop-index-preserved : goal.loop-index-preserved
loop-index-preserved c =
    let o = c.args.order in let s = c.args.samples.now in let j = c.loop-index.index in let p = c.predict_narrow.result in
    let so = c.loop-index.invariant in
    let last : HoldsLast o s (o + j) c.narrow_before-first.result c.narrow_before-second.result c.narrow_before-third.result c.narrow_before-fourth.result = record {
      one = c.narrow_before-first.ensures.value;
      two = c.narrow_before-second.ensures.value;
      three = c.narrow_before-third.ensures.value;
      four = c.narrow_before-fourth.ensures.value;
    } in
    let one = same_narrow c.narrow_before-first.result c.narrow_before-first.ensures.fits in
    let two = same_narrow c.narrow_before-second.result c.narrow_before-second.ensures.fits in
    let three = same_narrow c.narrow_before-third.result c.narrow_before-third.ensures.fits in
    let four = same_narrow c.narrow_before-fourth.result c.narrow_before-fourth.ensures.fits in
    let value = rw (one, two, three, four) at c.predict_narrow.ensures.value in
    let is = value ∙ predicted_after o s (o + j) _ _ _ _ c.requires.order (omega arith) last in
    let v = to_z w32 (of_z w32 (to_z w32 (of_z w32 (sample_at s (o + j))) -ℤ to_z w32 (of_z w32 p))) in
    let e : v ≡ difference (fixed_coefficients o) 0 s j = narrow_at o s j p c.requires.order (c.requires.fits (o + j) (pos 0) (omega arith)) is c.predict_narrow.ensures.small in
    let within : j < length c.loop-index.values = omega arith in
    let within_folds : j < length c.loop-index.folds = omega arith in
    record {
      values = take_more_set c.loop-index.values j v within ∙ rw (so.values, e) (sym (map-range_with_len_more (difference (fixed_coefficients o) 0 s) 0 j j (omega arith)));
      folds = fold_next (difference (fixed_coefficients o) 0 s) c.loop-index.folds j _ within_folds (c.fold_narrow.ensures.value ∙ ap folded e) so.folds;
    }
