use Rattle.std.proofs.Common.{rules, ℕ, ℤ, List, ◌≡◌, ◌∙◌, ◌<◌, ◌+ℤ◌, ◌∷◌, [], pos, sym, refl, arith, slice_set, to_z, of_z, w64}
use Rattle.std.proofs.lemmas.List.{get_or-set_same, get_or-set_other}
use Rattle.std.proofs.lemmas.Int.{to_z-of_z}
use Rattle.flac_bits.specs.Signed.{FitsBits}
use Rattle.flac_subframe.specs.format.Numbers.{sample_at}
use Rattle.flac_subframe.specs.format.Prediction.{prediction}
use Rattle.flac_subframe.specs.format.inner.Summing.{Added}
use Rattle.flac_subframe.proofs.lemmas.format.Bounds.{fits_more, stored, near_back}
use Rattle.flac_subframe.proofs.lemmas.format.Restoring.{RestoredTo, restored_more, stops, done}
use Rattle.flac_subframe.proofs.lemmas.format.Summing.{sums_more, below_more, added_is, products_held, sums_held, first_within, sums_none, below_none, zeros_at, stored_fits, residual_fits, next_is}
use Rattle.flac_subframe.proofs.format.restoration.restore_summed.Goals as goal

pub loop-i-init : goal.loop-i-init
loop-i-init c =
    let sums : List ℤ = (pos 0 ∷ pos 0 ∷ pos 0 ∷ pos 0 ∷ pos 0 ∷ pos 0 ∷ pos 0 ∷ pos 0 ∷ pos 0 ∷ pos 0 ∷ pos 0 ∷ pos 0 ∷ pos 0 ∷ []) in
    let zeros = zeros_at sums (refl, (refl, (refl, (refl, (refl, (refl, (refl, (refl, (refl, (refl, (refl, (refl, (refl, tt))))))))))))) in
    record {
      sums = sums_none c.args.coefficients.now c.args.samples.now sums zeros;
      below = below_none c.args.order sums zeros;
    }

pub add_sample-requires-clause-products : goal.add_sample-requires-clause-products
add_sample-requires-clause-products c =
    let l = c.loop-i in
    let s = c.args.samples.now in
    products_held c.args.order c.args.coefficients.now l.sums _ c.requires.order c.requires.few c.requires.small (stored_fits c.args.bits (sample_at s l.i) c.requires.bits (c.requires.warm_up l.i (pos 0) (omega arith) (omega arith)))

pub add_sample-requires-clause-sums : goal.add_sample-requires-clause-sums
add_sample-requires-clause-sums c =
    let l = c.loop-i in
    let s = c.args.samples.now in
    sums_held c.args.order c.args.coefficients.now l.sums _ c.requires.order c.requires.few c.requires.small (stored_fits c.args.bits (sample_at s l.i) c.requires.bits (c.requires.warm_up l.i (pos 0) (omega arith) (omega arith))) l.invariant.below

pub loop-i-preserved : goal.loop-i-preserved
loop-i-preserved c =
    let l = c.loop-i in
    let order = c.args.order in
    let cs = c.args.coefficients.now in
    let s = c.args.samples.now in
    let new = c.add_sample.new.sums in
    let x : ℤ = to_z w64 (of_z w64 (sample_at s l.i)) in
    let fit = c.requires.warm_up l.i (pos 0) (omega arith) (omega arith) in
    let held : x ≡ sample_at s l.i = stored c.args.bits (sample_at s l.i) c.requires.bits fit in
    let wide : FitsBits 33 x = rw held (fits_more c.args.bits (sample_at s l.i) c.requires.bits fit) in
    let added : Added cs x l.sums new = added_is order cs l.sums new x c.requires.order c.add_sample.ensures.added c.add_sample.ensures.last in
    record {
      sums = sums_more cs s s l.sums new l.i x l.invariant.sums added (sym held) (λ j h. refl);
      below = below_more order cs l.sums new x c.requires.order c.requires.small wide l.invariant.below added;
    }

pub loop-i-2-init : goal.loop-i-2-init
loop-i-2-init c =
    let order = c.args.order in
    let s = c.args.samples.now in
    let end : c.loop-i.i ≡ order = omega arith in
    let so : RestoredTo c.args.coefficients.now c.args.shift c.args.bits s s order = record {
      warm_up = λ k h. refl;
      later = λ k g h. absurd (omega (arith, g, h));
      rest = λ k h. refl;
      fits = λ k h. c.requires.warm_up k (pos 0) (omega arith) h;
    } in
    record { so = so; held = rw end at c.loop-i.invariant.sums; below = c.loop-i.invariant.below }

pub sample_of-sample-requires-clause-sum : goal.sample_of-sample-requires-clause-sum
sample_of-sample-requires-clause-sum c = first_within c.args.order c.loop-i-2.sums c.requires.few c.loop-i-2.invariant.below

pub sample_of-sample-requires-clause-residual : goal.sample_of-sample-requires-clause-residual
sample_of-sample-requires-clause-residual c =
    let l = c.loop-i-2 in
    residual_fits (sample_at l.samples l.i) (sample_at c.args.samples.now l.i) (l.invariant.so.rest l.i (omega arith)) (c.requires.residual l.i (pos 0) (omega arith) (omega arith))

pub add_sample-requires-in-loop-i-2-clause-products : goal.add_sample-requires-in-loop-i-2-clause-products
add_sample-requires-in-loop-i-2-clause-products c =
    let fit = c.fits_bits.ensures.0 c.if-not-fits_bits.false in
    products_held c.args.order c.args.coefficients.now c.loop-i-2.sums _ c.requires.order c.requires.few c.requires.small (fits_more c.args.bits _ c.requires.bits fit)

pub add_sample-requires-in-loop-i-2-clause-sums : goal.add_sample-requires-in-loop-i-2-clause-sums
add_sample-requires-in-loop-i-2-clause-sums c =
    let fit = c.fits_bits.ensures.0 c.if-not-fits_bits.false in
    sums_held c.args.order c.args.coefficients.now c.loop-i-2.sums _ c.requires.order c.requires.few c.requires.small (fits_more c.args.bits _ c.requires.bits fit) c.loop-i-2.invariant.below

pub loop-i-2-preserved : goal.loop-i-2-preserved
loop-i-2-preserved c =
    let l = c.loop-i-2 in
    let order = c.args.order in
    let bits = c.args.bits in
    let shift = c.args.shift in
    let cs = c.args.coefficients.now in
    let r = c.args.samples.now in
    let s = l.samples in
    let new = c.add_sample-in-loop-i-2.new.sums in
    let v : ℤ = c.sample_of-sample.result in
    let kept : to_z w64 (of_z w64 v) ≡ v = to_z-of_z w64 v (search rules) in
    let x : ℤ = to_z w64 (of_z w64 v) in
    let t : List ℤ = slice_set s l.i x in
    let here : sample_at t l.i ≡ x = get_or-set_same s l.i x (pos 0) (omega arith) in
    let others : (j : ℕ) → j < l.i → sample_at s j ≡ sample_at t j = λ j h. sym (get_or-set_other s l.i j x (pos 0) (λ f. omega (arith, f, h))) in
    let small = c.requires.residual l.i (pos 0) (omega arith) (omega arith) in
    let is : x ≡ prediction cs shift s l.i +ℤ sample_at r l.i = kept ∙ next_is order l.sums c.requires.few l.invariant.below cs s r shift l.i v c.sample_of-sample.ensures.value l.invariant.held (omega arith) (l.invariant.so.rest l.i (omega arith)) small in
    let fit : FitsBits bits x = c.fits_bits.ensures.0 c.if-not-fits_bits.false in
    let wide : FitsBits 33 x = fits_more bits x c.requires.bits fit in
    let added : Added cs x l.sums new = added_is order cs l.sums new x c.requires.order c.add_sample-in-loop-i-2.ensures.added c.add_sample-in-loop-i-2.ensures.last in
    record {
      so = restored_more cs shift bits r s l.i _ (omega arith) (omega arith) l.invariant.so is fit;
      held = sums_more cs s t l.sums new l.i x l.invariant.held added here others;
      below = below_more order cs l.sums new x c.requires.order c.requires.small wide l.invariant.below added;
    }

pub returns-clause-only : goal.returns-clause-only
returns-clause-only c = λ t all fit. refl

pub returns-clause-fits : goal.returns-clause-fits
returns-clause-fits c = λ t. (done c.args.coefficients.now c.args.shift c.args.bits c.args.samples.now c.loop-i-2.samples c.loop-i-2.i c.loop-i-2.auto.samples (omega arith) c.loop-i-2.invariant.so).1

pub returns-clause-restored : goal.returns-clause-restored
returns-clause-restored c = λ t. (done c.args.coefficients.now c.args.shift c.args.bits c.args.samples.now c.loop-i-2.samples c.loop-i-2.i c.loop-i-2.auto.samples (omega arith) c.loop-i-2.invariant.so).0

-- the loop ends at a sample that does not fit

pub returns-then-not-fits_bits-clause-restored : goal.returns-then-not-fits_bits-clause-restored
returns-then-not-fits_bits-clause-restored c = λ t. absurd (cc (c.fits_bits.ensures.1 (c.fits_apart.ensures.0 t), c.if-not-fits_bits.true))

pub returns-then-not-fits_bits-clause-fits : goal.returns-then-not-fits_bits-clause-fits
returns-then-not-fits_bits-clause-fits c = λ t. absurd (cc (c.fits_bits.ensures.1 (c.fits_apart.ensures.0 t), c.if-not-fits_bits.true))

pub returns-then-not-fits_bits-clause-only : goal.returns-then-not-fits_bits-clause-only
returns-then-not-fits_bits-clause-only c = λ t all fit.
    let l = c.loop-i-2 in
    let cs = c.args.coefficients.now in
    let r = c.args.samples.now in
    let v : ℤ = c.sample_of-sample.result in
    let kept : to_z w64 (of_z w64 v) ≡ v = to_z-of_z w64 v (search rules) in
    let small = c.requires.residual l.i (pos 0) (omega arith) (omega arith) in
    let is : to_z w64 (of_z w64 v) ≡ prediction cs c.args.shift l.samples l.i +ℤ sample_at r l.i = kept ∙ next_is c.args.order l.sums c.requires.few l.invariant.below cs l.samples r c.args.shift l.i v c.sample_of-sample.ensures.value l.invariant.held (omega arith) (l.invariant.so.rest l.i (omega arith)) small in
    absurd (stops cs c.args.shift c.args.bits r l.samples l.i _ (omega arith) (omega arith) l.invariant.so is
    (λ f. cc (c.fits_bits.ensures.1 f, c.if-not-fits_bits.true)) t all fit)

pub fits_bits-requires-clause-near : goal.fits_bits-requires-clause-near
fits_bits-requires-clause-near c = near_back c.sample_of-sample.result c.sample_of-sample.ensures.near

pub fits_apart-requires-clause-near : goal.fits_apart-requires-clause-near
fits_apart-requires-clause-near c = near_back c.sample_of-sample.result c.sample_of-sample.ensures.near
