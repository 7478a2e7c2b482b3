use Rattle.std.proofs.Common.{arith, ◌≡◌, ◌<◌, ◌≤◌, length, ◌+◌, ◌-◌, ◌^◌, ◌∷◌, w64, ℤ, pos, ◌+ℤ◌, to_z, sym, ap, ◌∙◌, drop}
use Rattle.std.proofs.Math.IntN.{+ℤ_assoc, +ℤ_idr}
use Rattle.std.specs.Int.{int_shr}
use Rattle.std.specs.Int.RustNames.{unsigned_abs}
use Rattle.std.proofs.lemmas.List.{drop_more, drop_all}
use Rattle.flac_bits.specs.Signed.{FitsBits}
use Rattle.flac_subframe.specs.format.Numbers.{sample_at}
use Rattle.flac_subframe.specs.format.Prediction.{weighted}
use Rattle.flac_subframe.proofs.lemmas.format.Bounds.{product_fits, sum_fits, sum_back, sum_small, back, shifted_small}
use Rattle.flac_subframe.proofs.format.predictors.predict_linear.Goals as goal

pub overflow_mul-sum : goal.overflow_mul-sum
overflow_mul-sum c = product_fits _ _ _ c.from.ensures (c.requires.small _ _ (omega arith)) (c.requires.samples _ _ (omega arith))

pub overflow_add-sum : goal.overflow_add-sum
overflow_add-sum c =
    sum_fits _ _ _ c.from.ensures (c.requires.small _ _ (omega arith)) (c.requires.samples _ _ (omega arith)) _ _ (omega arith) c.loop-coefficient.invariant.small

pub loop-coefficient-preserved : goal.loop-coefficient-preserved
unfolding weighted
loop-coefficient-preserved c =
    let i = c.loop-coefficient.coefficient-index in
    let cs = c.args.coefficients.now in
    let samples = c.args.samples.now in
    let sum = to_z w64 c.loop-coefficient.sum-bits in
    let k : i < length cs = c.loop-coefficient-test.true in
    let f : FitsBits 15 (sample_at cs i) = c.requires.small i (pos 0) k in
    let g : FitsBits 33 (sample_at c.args.samples.now (c.loop-coefficient.at - 1)) = c.requires.samples (c.loop-coefficient.at - 1) (pos 0) (omega arith) in
    let few : i < 32 = omega arith in
    let small = c.loop-coefficient.invariant.small in
    let e = sum_back _ _ _ c.from.ensures f g sum i few small in
    let was : sum +ℤ weighted (sample_at cs i ∷ drop (i + 1) cs) samples c.loop-coefficient.at ≡ weighted cs samples (length samples) =
    rw (drop_more cs i (pos 0) k) at c.loop-coefficient.invariant.rest in
    record {
      place = omega arith;
      rest = rw (e, +ℤ_assoc) was;
      small = rw e (sum_small _ _ _ c.from.ensures f g sum i few small);
    }

pub returns : goal.returns
unfolding weighted
returns c =
    let i = c.loop-coefficient.coefficient-index in
    let small = c.loop-coefficient.invariant.small in
    let sum = to_z w64 c.loop-coefficient.sum-bits in
    let h : unsigned_abs sum ≤ 2 ^ 51 = omega arith in
    let k : length c.args.coefficients.now ≤ i = omega arith in
    let was : sum +ℤ pos 0 ≡ weighted c.args.coefficients.now c.args.samples.now (length c.args.samples.now) =
    rw (drop_all i c.args.coefficients.now k) at c.loop-coefficient.invariant.rest in
    let e = sym (+ℤ_idr sum) ∙ was in
    record {
      value = back _ (omega (arith, shifted_small sum c.args.shift h)) ∙ ap (λ (z : ℤ). int_shr z c.args.shift) e;
      bound = rw (back (int_shr sum c.args.shift) (omega (arith, shifted_small sum c.args.shift h))) (shifted_small sum c.args.shift h);
      small = rw e at h;
    }
