use Rattle.std.proofs.Common.{rules, arith, ◌≡◌, ◌∙◌, ◌<◌, ◌^◌, length, get_or, ℤ, pos, to_z, of_z, w32, w64, SFits}
use Rattle.std.proofs.lemmas.Bool.{ltb-true}
use Rattle.std.proofs.lemmas.Int.{to_z-of_z}
use Rattle.std.proofs.lemmas.List.{take_all}
use Rattle.std.proofs.lemmas.Nat.{le_or_l, le_or_r}
use Rattle.flac_bits.specs.Signed.{FitsBits}
use Rattle.flac_subframe.proofs.lemmas.format.Digits.{All_step}
use Rattle.flac_subframe.proofs.lemmas.format.Folding.{same_more}
use Rattle.flac_subframe.proofs.lemmas.format.Narrow.{narrow_fits}
use Rattle.flac_subframe.proofs.format.narrowed.narrow.Goals as goal

pub loop-i-preserved : goal.loop-i-preserved
loop-i-preserved c =
    let i = c.loop-i.i in
    let so = c.loop-i.invariant in
    let xs = c.args.samples.now in
    let within : i < length xs = c.loop-i-test.true in
    let step = All_step (FitsBits 27) xs i (pos 0) within in
    let x : ℤ = get_or xs i (pos 0) in
    let f : SFits w64 x = search rules in
    let is : to_z w64 (of_z w64 x) ≡ x = to_z-of_z w64 x f in
    let one = rw is at c.offset_binary-all.ensures in
    let v : ℤ = c.lowest.result in
    let g : SFits w32 v = search rules in
    let kept : to_z w32 (of_z w32 v) ≡ v = to_z-of_z w32 v g in
    let low = rw is at c.lowest.ensures in
    let long : length c.loop-i.narrowed ≡ length xs = omega (arith, c.loop-i.auto.narrowed, c.requires.places) in
    record {
      fits = λ h. step.1 (so.fits (omega (arith, h, le_or_l c.loop-i.all c.offset_binary-all.result)), one.0 (omega (arith, h, le_or_r c.loop-i.all c.offset_binary-all.result)));
      same = λ h. same_more xs c.loop-i.narrowed i (to_z w32 (of_z w32 v)) within long
          (kept ∙ low (narrow_fits x (one.0 (omega (arith, h, le_or_r c.loop-i.all c.offset_binary-all.result)))))
          (so.same (omega (arith, h, le_or_l c.loop-i.all c.offset_binary-all.result)));
    }

pub returns-clause-fits : goal.returns-clause-fits
returns-clause-fits c = λ t.
    let less : c.loop-i.all < 2 ^ 27 = omega (arith, ltb-true _ _ t) in
    rw (take_all c.loop-i.i c.args.samples.now c.loop-i-test.false) at (c.loop-i.invariant.fits less)

pub returns-clause-same : goal.returns-clause-same
returns-clause-same c = λ t.
    let less : c.loop-i.all < 2 ^ 27 = omega (arith, ltb-true _ _ t) in
    let over = c.loop-i-test.false in
    rw (take_all c.loop-i.i c.args.samples.now over, take_all c.loop-i.i c.loop-i.narrowed (omega (arith, c.loop-i.auto.narrowed, c.requires.places, over))) at (c.loop-i.invariant.same less)
