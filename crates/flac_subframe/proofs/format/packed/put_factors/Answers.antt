use Rattle.std.proofs.Common.{rules, arith, ◌≡◌, ◌∙◌, ◌+◌, ◌<◌, length, pos, inl, inr, to_z, of_z, w64}
use Rattle.std.proofs.lemmas.List.{get_or-set_same, get_or-set_other}
use Rattle.std.proofs.lemmas.Bool.{cases_lt}
use Rattle.std.proofs.lemmas.Int.{to_z-of_z}
use Rattle.flac_subframe.specs.format.inner.Packing.{paired}
use Rattle.flac_subframe.specs.format.Numbers.{sample_at}
use Rattle.flac_subframe.proofs.lemmas.format.Bounds.{back_15}
use Rattle.flac_subframe.proofs.format.packed.put_factors.Goals as goal

pub loop-j-preserved : goal.loop-j-preserved
loop-j-preserved c =
    let l = c.loop-j in
    let cs = c.args.coefficients.now in
    let v = c.pair.result in
    let kept : to_z w64 (of_z w64 v) ≡ v = to_z-of_z w64 v (search rules) in
    let one = c.coefficient_at in
    let two = c.coefficient_at-in-loop-j in
    let is : v ≡ paired (sample_at cs l.j) (sample_at cs (l.j + c.args.half)) = rw (back_15 one.result one.ensures.fits, back_15 two.result two.ensures.fits, one.ensures.is, two.ensures.is) at c.pair.ensures in
    let room : l.j < length l.factors = omega (arith, l.auto.factors, c.loop-j-test.true, c.requires.half) in
    λ k h. elim (cases_lt k l.j) [
      | inl b ↦ get_or-set_other l.factors l.j k _ (pos 0) (λ e. omega (arith, e, b)) ∙ l.invariant k b
      | inr b ↦ let e : k ≡ l.j = omega (arith, h, b) in rw e (get_or-set_same l.factors l.j _ (pos 0) room ∙ kept ∙ is)
    ]
