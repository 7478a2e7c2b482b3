use Rattle.std.proofs.Common.{◌/◌, ◌^◌, arith, rules, ◌≡◌, ℤ, pos, length, get_or, to_z, of_z, w32, w64, SFits, true, sym, ap, ◌∙◌}
use Rattle.std.proofs.lemmas.Int.{to_z-of_z}
use Rattle.flac_subframe.specs.format.Numbers.{fits}
use Rattle.flac_frame.proofs.Depths.{none_over, over_none, fit_more, fit_less, put_more, kept_32, none_left, none_both}
use Rattle.flac_frame.proofs.samples.narrow.Goals as goal

pub loop-i-preserved : goal.loop-i-preserved
loop-i-preserved c =
    let l = c.loop-i in
    let inv = l.invariant in
    let depth = c.args.depth in
    let xs = c.args.samples.now in
    let lt = c.loop-i-test.true in
    let x : ℤ = get_or xs l.i (pos 0) in
    let f : SFits w64 x = search rules in
    let same : to_z w64 (of_z w64 x) ≡ x = to_z-of_z w64 x f in
    let long : length l.out ≡ length xs = omega (arith, l.auto.out, c.requires.places) in
    let v : ℤ = c.lowest.result in
    let g : SFits w32 v = search rules in
    let kept : to_z w32 (of_z w32 v) ≡ v = to_z-of_z w32 v g in
    let good : c.offset_binary-wrong.result / 2 ^ depth ≡ 0 → fits depth x ≡ true = λ e. ap (fits depth) (sym same) ∙ none_over depth c.offset_binary-wrong.result _ c.offset_binary-wrong.ensures e in
    let is : fits depth x ≡ true → to_z w32 (of_z w32 v) ≡ x = λ h. kept ∙ (c.lowest.ensures (rw same (kept_32 depth x c.requires.depth.1 h)) ∙ same) in
    record {
      none = λ e. let z = none_left depth l.wrong c.offset_binary-wrong.result e in fit_more depth xs l.i lt (inv.none z.0) (good z.1);
      some = λ h. let both = fit_less depth xs l.i lt h in none_both depth l.wrong c.offset_binary-wrong.result (inv.some both.0) (over_none depth c.offset_binary-wrong.result _ c.offset_binary-wrong.ensures (ap (fits depth) same ∙ both.1));
      same = λ e. let z = none_left depth l.wrong c.offset_binary-wrong.result e in put_more xs l.out l.i (to_z w32 (of_z w32 v)) lt long (inv.same z.0) (is (good z.1));
    }
