use Rattle.std.proofs.Common.{◌/◌, ◌^◌, rules, ◌≡◌, ℤ, pos, get_or, to_z, of_z, w32, w64, SFits, sym, ap, ◌∙◌}
use Rattle.std.proofs.lemmas.Int.{to_z-of_z}
use Rattle.flac_subframe.specs.format.Numbers.{fits}
use Rattle.flac_frame.proofs.Depths.{none_over, over_none, fit_more, fit_less, none_left, none_both, none_wrong}
use Rattle.flac_frame.proofs.samples.samples_fit.Goals as goal

pub loop-i-preserved : goal.loop-i-preserved
loop-i-preserved c =
    let l = c.loop-i in
    let bits = c.args.bits in
    let xs = c.args.samples.now in
    let lt = c.loop-i-test.true in
    let x : ℤ = get_or xs l.i (pos 0) in
    let narrow : SFits w32 x = search rules in
    let y : ℤ = to_z w32 (of_z w32 x) in
    let near : y ≡ x = to_z-of_z w32 x narrow in
    let wide : SFits w64 y = search rules in
    let same : to_z w64 (of_z w64 y) ≡ x = to_z-of_z w64 y wide ∙ near in
    record {
      none = λ e. let z = none_left bits l.wrong c.offset_binary-wrong.result e in
          fit_more bits xs l.i lt (l.invariant.none z.0) (ap (fits bits) (sym same) ∙ none_over bits c.offset_binary-wrong.result _ c.offset_binary-wrong.ensures z.1);
      some = λ h. let both = fit_less bits xs l.i lt h in
          none_both bits l.wrong c.offset_binary-wrong.result (l.invariant.some both.0) (over_none bits c.offset_binary-wrong.result _ c.offset_binary-wrong.ensures (ap (fits bits) same ∙ both.1));
    }

pub returns : goal.returns
returns c = none_wrong c.args.bits (c.loop-i.wrong / 2 ^ c.args.bits) c.loop-i.i c.args.samples.now c.loop-i-test.false c.loop-i.invariant.none c.loop-i.invariant.some
