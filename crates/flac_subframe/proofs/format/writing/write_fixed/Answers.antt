use Rattle.std.proofs.Common.{arith, ◌≡◌, ◌∙◌, ◌+◌, ◌≤◌, ◌<◌, ℕ, ℤ, List, Fits, w32, ap, sym, ◌-◌, length, take, flat_map}
use Rattle.std.proofs.lemmas.List.{length-take-le}
use Rattle.std.proofs.lemmas.List.Elements.{All-take}
use Rattle.std.proofs.lemmas.Result.{err_from_is_err_and}
use Rattle.flac_bits.specs.Signed.{FitsBits, signed}
use Rattle.flac_bits.proofs.Writing.{writes_then, fails_first}
use Rattle.flac_subframe.specs.format.Bodies.{residual_of, differences}
use Rattle.flac_subframe.specs.format.inner.Cost.{codings_lent}
use Rattle.flac_subframe.specs.format.Prediction.{fixed_coefficients}
use Rattle.flac_subframe.specs.format.Spelling.{residual_spelling}
use Rattle.flac_subframe.proofs.lemmas.format.Differences.{length-fixed}
use Rattle.flac_subframe.proofs.lemmas.format.WriteSteps.{fixed_text}
use Rattle.flac_subframe.proofs.format.writing.write_fixed.Goals as goal

before : (a n : ℕ) → a < n → a ≤ n
before a n h = omega arith

left : (n k m : ℕ) → n ≤ m → n - k ≤ m
left n k m h = omega arith

fits_order : (n : ℕ) → n ≤ 4 → Fits w32 n
fits_order n h = omega arith

fills : (n k o m : ℕ) → m ≡ n - k → k < n → k ≡ o → m + o ≡ n
fills n k o m is less same = omega arith

within : (n k m : ℕ) → m ≡ n - k → k < n → n ≤ 65535 → m + k ≤ 65535
within n k m is less few = omega arith

pub overflow_cast-order : goal.overflow_cast-order
overflow_cast-order g c = fits_order c.args.order c.requires.order

pub fixed_coefficients-coefficients-requires : goal.fixed_coefficients-coefficients-requires
fixed_coefficients-coefficients-requires g c = c.requires.order

pub slice_bounds-places-count : goal.slice_bounds-places-count
slice_bounds-places-count g c = rw c.fixed_coefficients-coefficients.ensures (before _ _ c.requires.predicts.room)

pub slice_bounds-places-end : goal.slice_bounds-places-end
slice_bounds-places-end g c = left _ _ _ c.requires.places

pub slice_bounds-places-length : goal.slice_bounds-places-length
slice_bounds-places-length g c =
    sym (length-take-le (length c.args.samples.now - length c.fixed_coefficients-coefficients.result.now) c.args.values.now (left _ _ _ c.requires.places))

pub take_fixed-requires : goal.take_fixed-requires
take_fixed-requires g c =
    let n = length c.args.samples.now in let k = length c.fixed_coefficients-coefficients.result.now in
    let same = ap (λ (x : List ℤ). length x) c.fixed_coefficients-coefficients.ensures in
    record {
      order = c.requires.order;
      fits = c.requires.fits;
      places = fills n k c.args.order _ (length-take-le (n - k) c.args.values.now (left n k _ c.requires.places)) (rw same c.requires.predicts.room) (same ∙ length-fixed c.args.order c.requires.order);
    }

pub slice_bounds-write_signed-end : goal.slice_bounds-write_signed-end
slice_bounds-write_signed-end g c =
    sym (length-take-le (length c.fixed_coefficients-coefficients.result.now) c.args.samples.now (rw c.fixed_coefficients-coefficients.ensures (before _ _ c.requires.predicts.room)))

pub write_signed-requires : goal.write_signed-requires
write_signed-requires g c = record {
  few = c.requires.depth.1;
  range = All-take (FitsBits 33) (length c.fixed_coefficients-coefficients.result.now) c.args.samples.now c.requires.fits;
}

pub write_residual-requires : goal.write_residual-requires
write_residual-requires g c =
    let n = length c.args.samples.now in let k = length c.fixed_coefficients-coefficients.result.now in
    let same = ap (λ (x : List ℤ). length x) c.fixed_coefficients-coefficients.ensures in
    record {
      few = within n k _ (c.take_fixed.ensures.long ∙ length-take-le (n - k) c.args.values.now (left n k _ c.requires.places)) (rw same c.requires.predicts.room) c.requires.few;
      may = rw (c.fixed_coefficients-coefficients.ensures, c.take_fixed.ensures.all) c.requires.predicts.written;
      range = rw c.take_fixed.ensures.all c.requires.predicts.range;
    }

pub returns-in_err-write_signed : goal.returns-in_err-write_signed
returns-in_err-write_signed g c =
    let cs = fixed_coefficients c.args.order in
    let s = c.args.samples.now in
    let r = residual_of (length cs) (differences cs 0 s) (codings_lent c.args.choice.now) in
    let p = err_from_is_err_and c.from_residual.result c.from_residual.ensures.1 in
    let warm = rw c.fixed_coefficients-coefficients.ensures at c.in_err-write_signed.ensures in
    rw (p.1, p.2, fixed_text c.args.depth (take (length cs) s) r) (fails_first (flat_map (signed c.args.depth) (take (length cs) s)) (residual_spelling r) warm)

pub returns : goal.returns
returns g c =
    let cs = fixed_coefficients c.args.order in
    let s = c.args.samples.now in
    let r = residual_of (length cs) (differences cs 0 s) (codings_lent c.args.choice.now) in
    let same = c.fixed_coefficients-coefficients.ensures in
    let all = c.take_fixed.ensures.all in
    let warm = rw same at c.in_ok-write_signed.ensures in
    let rest = rw (same, all) at c.write_residual.ensures in
    rw (fixed_text c.args.depth (take (length cs) s) r) (writes_then (residual_spelling r) c.write_residual.new.writer c.write_residual.result warm rest)
