use Rattle.std.proofs.Common.{rules, ℕ, ℤ, List, ◌≡◌, ◌∙◌, ◌-◌, ◌^◌, ◌<◌, ◌≤◌, ◌+ℤ◌, length, pos, sym, refl, arith, slice_set, to_z, of_z, w64}
use Rattle.std.specs.Int.RustNames.{unsigned_abs}
use Rattle.std.proofs.lemmas.List.{get_or-set_same, get_or-set_other}
use Rattle.std.proofs.lemmas.Int.{to_z-of_z}
use Rattle.flac_bits.specs.Signed.{FitsBits}
use Rattle.flac_subframe.specs.format.Numbers.{sample_at}
use Rattle.flac_subframe.specs.format.Prediction.{prediction}
use Rattle.flac_subframe.proofs.lemmas.format.Bounds.{stored, near_back}
use Rattle.flac_subframe.proofs.lemmas.format.Restoring.{RestoredTo, restored_more, stops, done}
use Rattle.flac_subframe.proofs.lemmas.format.PackedSums.{packs_none, next_is, products_small, sums_small, packs_more, abs_from_bits, abs_stored}
use Rattle.flac_subframe.proofs.lemmas.format.Summing.{residual_fits}
use Rattle.flac_subframe.proofs.format.packed.restore_packed.Goals as goal

pub loop-i-init : goal.loop-i-init
loop-i-init c = packs_none c.words_of-half.result 7 c.args.coefficients.now c.args.samples.now (omega (arith, c.words_of-half.ensures.few))

pub add_sample-requires-clause-products : goal.add_sample-requires-clause-products
add_sample-requires-clause-products c =
    let l = c.loop-i in
    let bits = c.args.bits in
    let s = c.args.samples.now in
    let half : ℕ = c.words_of-half.result in
    let fit = λ (k : ℕ) (h : k < c.args.order). c.requires.warm_up k (pos 0) (omega arith) h in
    products_small half c.args.coefficients.now (2 ^ (bits - 1)) c.requires.narrow c.put_factors.new.factors _ (abs_stored bits (sample_at s l.i) c.requires.bits (fit l.i (omega arith))) c.put_factors.ensures

pub add_sample-requires-clause-sums : goal.add_sample-requires-clause-sums
add_sample-requires-clause-sums c =
    let l = c.loop-i in
    let bits = c.args.bits in
    let cs = c.args.coefficients.now in
    let s = c.args.samples.now in
    let half : ℕ = c.words_of-half.result in
    let fit = λ (k : ℕ) (h : k < c.args.order). c.requires.warm_up k (pos 0) (omega arith) h in
    let most : (k : ℕ) → k < l.i → unsigned_abs (sample_at s k) ≤ 2 ^ (bits - 1) = λ k h. abs_from_bits bits (sample_at s k) (fit k (omega arith)) in
    let held : to_z w64 (of_z w64 (sample_at s l.i)) ≡ sample_at s l.i = stored bits (sample_at s l.i) c.requires.bits (fit l.i (omega arith)) in
    let room : half < length l.words = search rules in
    sums_small half cs (2 ^ (bits - 1)) c.requires.narrow s l.words l.i most c.words_of-half.ensures.some l.invariant s c.put_factors.new.factors _ c.word_after.result (omega (arith, c.words_of-half.ensures.enough, c.requires.order)) room
    (abs_stored bits (sample_at s l.i) c.requires.bits (fit l.i (omega arith))) (sym held) (λ j h. refl) c.word_after.ensures c.put_factors.ensures

pub loop-i-preserved : goal.loop-i-preserved
loop-i-preserved c =
    let l = c.loop-i in
    let bits = c.args.bits in
    let cs = c.args.coefficients.now in
    let s = c.args.samples.now in
    let half : ℕ = c.words_of-half.result in
    let fit = λ (k : ℕ) (h : k < c.args.order). c.requires.warm_up k (pos 0) (omega arith) h in
    let most : (k : ℕ) → k < l.i → unsigned_abs (sample_at s k) ≤ 2 ^ (bits - 1) = λ k h. abs_from_bits bits (sample_at s k) (fit k (omega arith)) in
    let held : to_z w64 (of_z w64 (sample_at s l.i)) ≡ sample_at s l.i = stored bits (sample_at s l.i) c.requires.bits (fit l.i (omega arith)) in
    let room : half < length l.words = search rules in
    packs_more half cs (2 ^ (bits - 1)) c.requires.narrow s l.words l.i most c.words_of-half.ensures.some l.invariant s c.put_factors.new.factors (to_z w64 (of_z w64 (sample_at s l.i))) c.word_after.result (omega (arith, c.words_of-half.ensures.enough, c.requires.order)) room
    (abs_stored bits (sample_at s l.i) c.requires.bits (fit l.i (omega arith))) (sym held) (λ j h. refl) c.word_after.ensures c.put_factors.ensures c.add_sample.new.sums c.add_sample.ensures.added

pub loop-i-2-init : goal.loop-i-2-init
loop-i-2-init c =
    let order = c.args.order in
    let s = c.args.samples.now in
    let end : c.loop-i.i ≡ order = omega arith in
    let so : RestoredTo c.args.coefficients.now c.args.shift c.args.bits s s order = record {
      warm_up = λ k h. refl;
      later = λ k g h. absurd (omega (arith, g, h));
      rest = λ k h. refl;
      fits = λ k h. c.requires.warm_up k (pos 0) (omega arith) h;
    } in
    record { so = so; packs = rw end at c.loop-i.invariant }

pub sample_of-sample-requires-clause-residual : goal.sample_of-sample-requires-clause-residual
sample_of-sample-requires-clause-residual c =
    let l = c.loop-i-2 in
    residual_fits (sample_at l.samples l.i) (sample_at c.args.samples.now l.i) (l.invariant.so.rest l.i (omega arith)) (c.requires.residual l.i (pos 0) (omega arith) (omega arith))

pub add_sample-requires-in-loop-i-2-clause-products : goal.add_sample-requires-in-loop-i-2-clause-products
add_sample-requires-in-loop-i-2-clause-products c =
    let bits = c.args.bits in
    let fit = c.fits_bits.ensures.0 c.if-not-fits_bits.false in
    products_small c.words_of-half.result c.args.coefficients.now (2 ^ (bits - 1)) c.requires.narrow c.put_factors.new.factors _ (abs_from_bits bits _ fit) c.put_factors.ensures

pub add_sample-requires-in-loop-i-2-clause-sums : goal.add_sample-requires-in-loop-i-2-clause-sums
add_sample-requires-in-loop-i-2-clause-sums c =
    let l = c.loop-i-2 in
    let bits = c.args.bits in
    let s = l.samples in
    let half : ℕ = c.words_of-half.result in
    let v : ℤ = c.sample_of-sample.result in
    let x : ℤ = to_z w64 (of_z w64 v) in
    let t : List ℤ = slice_set s l.i x in
    let room : half < length l.words = search rules in
    let here : sample_at t l.i ≡ x = get_or-set_same s l.i x (pos 0) (omega arith) in
    let others : (j : ℕ) → j < l.i → sample_at s j ≡ sample_at t j = λ j h. sym (get_or-set_other s l.i j x (pos 0) (λ f. omega (arith, f, h))) in
    let most : (k : ℕ) → k < l.i → unsigned_abs (sample_at s k) ≤ 2 ^ (bits - 1) = λ k b. abs_from_bits bits (sample_at s k) (l.invariant.so.fits k b) in
    let fit : FitsBits bits x = c.fits_bits.ensures.0 c.if-not-fits_bits.false in
    sums_small half c.args.coefficients.now (2 ^ (bits - 1)) c.requires.narrow s l.words l.i most c.words_of-half.ensures.some l.invariant.packs t c.put_factors.new.factors x c.word_after-in-loop-i-2.result (omega (arith, c.words_of-half.ensures.enough, c.requires.order)) room
    (abs_from_bits bits x fit) here others c.word_after-in-loop-i-2.ensures c.put_factors.ensures

pub loop-i-2-preserved : goal.loop-i-2-preserved
loop-i-2-preserved c =
    let l = c.loop-i-2 in
    let bits = c.args.bits in
    let shift = c.args.shift in
    let cs = c.args.coefficients.now in
    let r = c.args.samples.now in
    let s = l.samples in
    let half : ℕ = c.words_of-half.result in
    let v : ℤ = c.sample_of-sample.result in
    let kept : to_z w64 (of_z w64 v) ≡ v = to_z-of_z w64 v (search rules) in
    let x : ℤ = to_z w64 (of_z w64 v) in
    let t : List ℤ = slice_set s l.i x in
    let room : half < length l.words = search rules in
    let here : sample_at t l.i ≡ x = get_or-set_same s l.i x (pos 0) (omega arith) in
    let others : (j : ℕ) → j < l.i → sample_at s j ≡ sample_at t j = λ j h. sym (get_or-set_other s l.i j x (pos 0) (λ f. omega (arith, f, h))) in
    let small = c.requires.residual l.i (pos 0) (omega arith) (omega arith) in
    let most : (k : ℕ) → k < l.i → unsigned_abs (sample_at s k) ≤ 2 ^ (bits - 1) = λ k b. abs_from_bits bits (sample_at s k) (l.invariant.so.fits k b) in
    let is : x ≡ prediction cs shift s l.i +ℤ sample_at r l.i = kept ∙ next_is half cs (2 ^ (bits - 1)) c.requires.narrow s l.words l.i most c.words_of-half.ensures.some l.invariant.packs r shift v c.sample_of-sample.ensures.value (omega arith) (l.invariant.so.rest l.i (omega arith)) small in
    let fit : FitsBits bits x = c.fits_bits.ensures.0 c.if-not-fits_bits.false in
    record {
      so = restored_more cs shift bits r s l.i _ (omega arith) (omega arith) l.invariant.so is fit;
      packs = packs_more half cs (2 ^ (bits - 1)) c.requires.narrow s l.words l.i most c.words_of-half.ensures.some l.invariant.packs t c.put_factors.new.factors x c.word_after-in-loop-i-2.result (omega (arith, c.words_of-half.ensures.enough, c.requires.order)) room (abs_from_bits bits x fit) here others c.word_after-in-loop-i-2.ensures c.put_factors.ensures
          c.add_sample-in-loop-i-2.new.sums c.add_sample-in-loop-i-2.ensures.added;
    }

pub returns-clause-only : goal.returns-clause-only
returns-clause-only c = λ t all fit. refl

pub returns-clause-fits : goal.returns-clause-fits
returns-clause-fits c = λ t. (done c.args.coefficients.now c.args.shift c.args.bits c.args.samples.now c.loop-i-2.samples c.loop-i-2.i c.loop-i-2.auto.samples (omega arith) c.loop-i-2.invariant.so).1

pub returns-clause-restored : goal.returns-clause-restored
returns-clause-restored c = λ t. (done c.args.coefficients.now c.args.shift c.args.bits c.args.samples.now c.loop-i-2.samples c.loop-i-2.i c.loop-i-2.auto.samples (omega arith) c.loop-i-2.invariant.so).0

-- the loop ends at a sample that does not fit

pub returns-then-not-fits_bits-clause-restored : goal.returns-then-not-fits_bits-clause-restored
returns-then-not-fits_bits-clause-restored c = λ t. absurd (cc (c.fits_bits.ensures.1 (c.fits_apart.ensures.0 t), c.if-not-fits_bits.true))

pub returns-then-not-fits_bits-clause-fits : goal.returns-then-not-fits_bits-clause-fits
returns-then-not-fits_bits-clause-fits c = λ t. absurd (cc (c.fits_bits.ensures.1 (c.fits_apart.ensures.0 t), c.if-not-fits_bits.true))

pub returns-then-not-fits_bits-clause-only : goal.returns-then-not-fits_bits-clause-only
returns-then-not-fits_bits-clause-only c = λ t all fit.
    let l = c.loop-i-2 in
    let bits = c.args.bits in
    let cs = c.args.coefficients.now in
    let r = c.args.samples.now in
    let s = l.samples in
    let v : ℤ = c.sample_of-sample.result in
    let kept : to_z w64 (of_z w64 v) ≡ v = to_z-of_z w64 v (search rules) in
    let small = c.requires.residual l.i (pos 0) (omega arith) (omega arith) in
    let most : (k : ℕ) → k < l.i → unsigned_abs (sample_at s k) ≤ 2 ^ (bits - 1) = λ k b. abs_from_bits bits (sample_at s k) (l.invariant.so.fits k b) in
    let is : to_z w64 (of_z w64 v) ≡ prediction cs c.args.shift s l.i +ℤ sample_at r l.i = kept ∙ next_is c.words_of-half.result cs (2 ^ (bits - 1)) c.requires.narrow s l.words l.i most c.words_of-half.ensures.some l.invariant.packs r c.args.shift v c.sample_of-sample.ensures.value (omega arith) (l.invariant.so.rest l.i (omega arith)) small in
    absurd (stops cs c.args.shift bits r s l.i _ (omega arith) (omega arith) l.invariant.so is
    (λ f. cc (c.fits_bits.ensures.1 f, c.if-not-fits_bits.true)) t all fit)

pub fits_bits-requires-clause-near : goal.fits_bits-requires-clause-near
fits_bits-requires-clause-near c = near_back c.sample_of-sample.result c.sample_of-sample.ensures.near

pub fits_apart-requires-clause-near : goal.fits_apart-requires-clause-near
fits_apart-requires-clause-near c = near_back c.sample_of-sample.result c.sample_of-sample.ensures.near
