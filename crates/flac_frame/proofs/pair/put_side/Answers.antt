use Rattle.std.proofs.Common.{◌≡◌, ◌∙◌, ℤ, pos, get_or, SFits, to_z, of_z, w32, w64, rules, arith}
use Rattle.std.proofs.lemmas.Int.{to_z-of_z}
use Rattle.flac_frame.proofs.Pairs.{side_more, side_done, less_read}
use Rattle.flac_frame.proofs.pair.put_side.Goals as goal

pub returns : goal.returns
returns c = side_done c.args.left.now c.args.right.now c.loop-i.side c.loop-i.i c.requires.right (omega (arith, c.loop-i.auto.side, c.requires.side)) (omega (arith, c.loop-i-test.false)) c.loop-i.invariant

pub loop-i-preserved : goal.loop-i-preserved
loop-i-preserved c =
    let l : ℤ = get_or c.args.left.now c.loop-i.i (pos 0) in
    let r : ℤ = get_or c.args.right.now c.loop-i.i (pos 0) in
    let x : ℤ = c.side_of_samples.result in
    let lf : SFits w32 l = search rules in
    let rf : SFits w32 r = search rules in
    let xf : SFits w64 x = search rules in
    let le : to_z w32 (of_z w32 l) ≡ l = to_z-of_z w32 l lf in
    let re : to_z w32 (of_z w32 r) ≡ r = to_z-of_z w32 r rf in
    side_more c.args.left.now c.args.right.now c.loop-i.side c.loop-i.i _ c.requires.right (omega (arith, c.loop-i.auto.side, c.requires.side)) c.loop-i-test.true c.loop-i.invariant
    (to_z-of_z w64 x xf ∙ less_read x l r _ _ le re c.side_of_samples.ensures)
