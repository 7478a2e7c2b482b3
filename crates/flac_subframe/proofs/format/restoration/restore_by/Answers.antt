use Rattle.std.proofs.Common.{arith, ◌≡◌, ◌+◌, ◌-◌, ◌≤◌, ◌<◌, ◌^◌, ◌+ℤ◌, ℕ, ℤ, SFits, w64, to_z, of_z, pos, refl, sym}
use Rattle.std.proofs.lemmas.Bool.{false≢true}
use Rattle.std.proofs.lemmas.List.{get_or-set_same}
use Rattle.std.proofs.lemmas.Int.{ints}
use Rattle.std.specs.Int.RustNames.{unsigned_abs}
use Rattle.flac_bits.specs.Signed.{FitsBits}
use Rattle.flac_subframe.specs.format.Numbers.{sample_at}
use Rattle.flac_subframe.specs.format.Prediction.{prediction}
use Rattle.flac_subframe.specs.format.inner.Summing.{IsNear}
use Rattle.flac_subframe.proofs.lemmas.format.Bounds.{stored}
use Rattle.flac_subframe.proofs.lemmas.format.Restoring.{RestoredTo, restored_more, stops, done}
use Rattle.flac_subframe.proofs.lemmas.format.Nearest.{fits_before, sum_near}
use Rattle.flac_subframe.proofs.format.restoration.restore_by.Goals as goal

within : (i n m : ℕ) → i < n → m ≡ n → i ≤ m
within i n m h e = omega arith

sum_near_held : (p x y : ℤ) → unsigned_abs p ≤ 2 ^ 51 → x ≡ y → FitsBits 32 y → IsNear (to_z w64 (of_z w64 (to_z w64 (of_z w64 p) +ℤ to_z w64 (of_z w64 x))))
sum_near_held p x y small same fit = rw (sum_near p p x y refl small same fit) (omega (arith, ints, small, fit.low, fit.high))

itself : (n : ℕ) → n ≤ n
itself n = omega arith

any_below : (n : ℕ) → 0 ≤ n
any_below n = omega arith

last_below : (n : ℕ) → 1 ≤ n → n - 1 < n
last_below n h = omega arith

not_both : (k n m : ℕ) → n ≡ m → n ≤ k → k < m → ⊥
not_both k n m e h g = omega arith

sum_fits : (p x y : ℤ) → unsigned_abs p ≤ 2 ^ 51 → x ≡ y → FitsBits 32 y → SFits w64 (to_z w64 (of_z w64 p) +ℤ to_z w64 (of_z w64 x))
sum_fits p x y small same fit = rw same (grind (arith, ints, fit.low, fit.high))

pub overflow_add-sample : goal.overflow_add-sample
overflow_add-sample c =
    let l = c.loop-i in
    sum_fits c.predict_at.result _ _ c.predict_at.ensures.small (l.invariant.so.rest l.i (itself l.i)) (c.requires.residual l.i (pos 0) l.auto.i c.loop-i-test.true)

pub predict_at-requires : goal.predict_at-requires
predict_at-requires c = let l = c.loop-i in record {
  some = c.requires.some;
  few = c.requires.few;
  order = c.requires.order;
  small = c.requires.small;
  shift = c.requires.shift;
  enough = l.auto.i;
  within = within _ _ _ c.loop-i-test.true l.auto.samples;
  fits = fits_before c.args.bits l.samples l.i c.requires.bits (within _ _ _ c.loop-i-test.true l.auto.samples) l.invariant.so.fits;
  near = l.invariant.near;
}

pub fits_bits-requires : goal.fits_bits-requires
fits_bits-requires c =
    let l = c.loop-i in
    let fit = c.requires.residual l.i (pos 0) l.auto.i c.loop-i-test.true in
    record {
      positive = c.requires.positive;
      small = c.requires.bits;
      near = sum_near_held c.predict_at.result _ _ c.predict_at.ensures.small (l.invariant.so.rest l.i (itself l.i)) fit;
    }

pub loop-i-init : goal.loop-i-init
loop-i-init c =
    let order = c.args.order in
    let s = c.args.samples.now in
    let so : RestoredTo c.args.coefficients.now c.args.shift c.args.bits s s order = record {
      warm_up = λ k h. refl;
      later = λ k g h. absurd (not_both _ _ _ c.requires.order g h);
      rest = λ k h. refl;
      fits = λ k h. c.requires.warm_up k (pos 0) (any_below k) h;
    } in
    record { so = so; near = stored c.args.bits (sample_at s (order - 1)) c.requires.bits (so.fits (order - 1) (last_below order c.requires.some)) }

pub returns-then-not-fits_bits-clause-restored : goal.returns-then-not-fits_bits-clause-restored
returns-then-not-fits_bits-clause-restored c = λ t. absurd (false≢true t)

pub returns-then-not-fits_bits-clause-fits : goal.returns-then-not-fits_bits-clause-fits
returns-then-not-fits_bits-clause-fits c = λ t. absurd (false≢true t)

pub returns-clause-only : goal.returns-clause-only
returns-clause-only c = λ s so fit. refl

pub returns-then-not-fits_bits-clause-only : goal.returns-then-not-fits_bits-clause-only
returns-then-not-fits_bits-clause-only c = λ t all fit.
    let cs = c.args.coefficients.now in
    let i = c.loop-i.i in
    let s = c.loop-i.samples in
    let r = c.args.samples.now in
    let e = sum_near c.predict_at.result (prediction cs c.args.shift s i) (sample_at s i) (sample_at r i) c.predict_at.ensures.value c.predict_at.ensures.small (c.loop-i.invariant.so.rest i (omega arith)) (c.requires.residual i (pos 0) (omega arith) (omega arith)) in
    absurd (stops cs c.args.shift c.args.bits r s i _ (omega arith) (omega arith) c.loop-i.invariant.so e
    (λ f. cc (c.fits_bits.ensures.1 f, c.if-not-fits_bits.true)) t all fit)

pub loop-i-preserved : goal.loop-i-preserved
loop-i-preserved c =
    let cs = c.args.coefficients.now in
    let i = c.loop-i.i in
    let s = c.loop-i.samples in
    let r = c.args.samples.now in
    let e = sum_near c.predict_at.result (prediction cs c.args.shift s i) (sample_at s i) (sample_at r i) c.predict_at.ensures.value c.predict_at.ensures.small (c.loop-i.invariant.so.rest i (omega arith)) (c.requires.residual i (pos 0) (omega arith) (omega arith)) in
    let here : i + 1 - 1 ≡ i = omega arith in
    record {
      so = restored_more cs c.args.shift c.args.bits r s i _ (omega arith) (omega arith) c.loop-i.invariant.so e (c.fits_bits.ensures.0 c.if-not-fits_bits.false);
      near = rw here (sym (get_or-set_same s i _ (pos 0) (omega arith)));
    }

pub returns-clause-fits : goal.returns-clause-fits
returns-clause-fits c = λ so. (done c.args.coefficients.now c.args.shift c.args.bits c.args.samples.now c.loop-i.samples c.loop-i.i c.loop-i.auto.samples (omega arith) c.loop-i.invariant.so).1

pub returns-clause-restored : goal.returns-clause-restored
returns-clause-restored c = λ so. (done c.args.coefficients.now c.args.shift c.args.bits c.args.samples.now c.loop-i.samples c.loop-i.i c.loop-i.auto.samples (omega arith) c.loop-i.invariant.so).0
