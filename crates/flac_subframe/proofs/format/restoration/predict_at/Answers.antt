use Rattle.std.proofs.Common.{arith, pos, ◌-◌, to_z, w64, ℤ}
use Rattle.flac_bits.specs.Signed.{FitsBits}
use Rattle.flac_subframe.specs.format.Numbers.{sample_at}
use Rattle.flac_subframe.proofs.lemmas.format.Weighing.{term_fits, next_fits, next_is, next_small, weigh_more, weighed_is, weighed_small}
use Rattle.flac_subframe.proofs.format.restoration.predict_at.Goals as goal

pub overflow_mul-sum : goal.overflow_mul-sum
overflow_mul-sum c = term_fits _ _ (c.requires.small c.loop-j.j (pos 0) (omega arith)) (c.requires.fits (c.args.at - 1 - c.loop-j.j) (pos 0) (omega arith) (omega arith))

pub overflow_add-sum : goal.overflow_add-sum
overflow_add-sum c = next_fits _ _ (c.requires.small c.loop-j.j (pos 0) (omega arith)) (c.requires.fits (c.args.at - 1 - c.loop-j.j) (pos 0) (omega arith) (omega arith))
    _ c.loop-j.j (omega arith) (omega arith) c.loop-j.invariant.small

pub loop-j-preserved : goal.loop-j-preserved
loop-j-preserved c =
    let j = c.loop-j.j in
    let cs = c.args.coefficients.now in
    let s = c.args.samples.now in
    let sum : ℤ = to_z w64 c.loop-j.sum-bits in
    let f = c.requires.small j (pos 0) (omega arith) in
    let g = c.requires.fits (c.args.at - 1 - j) (pos 0) (omega arith) (omega arith) in
    let small = c.loop-j.invariant.small in
    let e = next_is (sample_at cs j) (sample_at s (c.args.at - 1 - j)) f g sum j (omega arith) (omega arith) small in
    let h = next_small (sample_at cs j) (sample_at s (c.args.at - 1 - j)) f g sum j (omega arith) (omega arith) small in
    record {
      rest = rw e (weigh_more cs s c.args.at j sum _ (omega arith) c.loop-j.invariant.rest);
      small = rw e (omega (arith, h));
    }

pub overflow_mul-result : goal.overflow_mul-result
overflow_mul-result c =
    let g : FitsBits 33 c.args.near = rw c.requires.near (c.requires.fits (c.args.at - 1) (pos 0) (omega arith) (omega arith)) in
    term_fits _ c.args.near (c.requires.small 0 (pos 0) (omega arith)) g

pub overflow_add-result : goal.overflow_add-result
overflow_add-result c =
    let g : FitsBits 33 c.args.near = rw c.requires.near (c.requires.fits (c.args.at - 1) (pos 0) (omega arith) (omega arith)) in
    next_fits _ c.args.near (c.requires.small 0 (pos 0) (omega arith)) g _ c.loop-j.j (omega arith) (omega arith) c.loop-j.invariant.small

pub returns-clause-value : goal.returns-clause-value
returns-clause-value c =
    let g : FitsBits 33 c.args.near = rw c.requires.near (c.requires.fits (c.args.at - 1) (pos 0) (omega arith) (omega arith)) in
    weighed_is c.args.coefficients.now c.args.samples.now c.args.shift c.args.at c.loop-j.j (to_z w64 c.loop-j.sum-bits) c.args.near (omega arith) (omega arith) (omega arith) (omega arith)
    (c.requires.small 0 (pos 0) (omega arith)) g c.requires.near c.loop-j.invariant.rest c.loop-j.invariant.small

pub returns-clause-small : goal.returns-clause-small
returns-clause-small c =
    let f = c.requires.small 0 (pos 0) (omega arith) in
    let g : FitsBits 33 c.args.near = rw c.requires.near (c.requires.fits (c.args.at - 1) (pos 0) (omega arith) (omega arith)) in
    let e = weighed_is c.args.coefficients.now c.args.samples.now c.args.shift c.args.at c.loop-j.j (to_z w64 c.loop-j.sum-bits) c.args.near (omega arith) (omega arith) (omega arith) (omega arith) f g c.requires.near c.loop-j.invariant.rest c.loop-j.invariant.small in
    let h = weighed_small c.args.coefficients.now c.args.samples.now c.args.shift c.args.at c.loop-j.j (to_z w64 c.loop-j.sum-bits) c.args.near (omega arith) (omega arith) (omega arith) (omega arith) f g c.requires.near c.loop-j.invariant.rest c.loop-j.invariant.small in
    rw e h
