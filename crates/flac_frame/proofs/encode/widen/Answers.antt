use Rattle.std.proofs.Common.{◌≡◌, ℤ, pos, length, get_or, to_z, of_z, w32, w64, SFits, arith, rules, ap, ◌∙◌}
use Rattle.std.proofs.lemmas.Int.{ints, to_z-of_z}
use Rattle.flac_frame.proofs.Encoded.{widen_more}
use Rattle.flac_frame.proofs.encode.widen.Goals as goal

pub loop-i-preserved : goal.loop-i-preserved
loop-i-preserved c =
    let x : ℤ = get_or c.args.samples.now c.loop-i.i (pos 0) in
    let f : SFits w32 x = search rules in
    let narrow : to_z w32 (of_z w32 x) ≡ x = to_z-of_z w32 x f in
    let wide : to_z w64 (of_z w64 x) ≡ x = to_z-of_z w64 x (omega (arith, ints, f)) in
    let long : length c.loop-i.out ≡ length c.args.samples.now = omega (arith, c.loop-i.auto.out, c.requires) in
    widen_more c.args.samples.now c.loop-i.out c.loop-i.i _ c.loop-i-test.true long (ap (λ (z : ℤ). to_z w64 (of_z w64 z)) narrow ∙ wide) c.loop-i.invariant
