use Rattle.std.proofs.Common.{◌∙◌, refl, ap, subst, sym, ℤ, List, [], ◌∷◌, length, take, drop, get_or, All, arith}
use Rattle.flac_bits.specs.Signed.{FitsBits}
use Rattle.flac_header.specs.Assignment.{code_of}
use Rattle.flac_frame.specs.Stereo.{kept_as}
use Rattle.flac_frame.proofs.Frames.{two_parts, part_small}
use Rattle.flac_frame.proofs.Sounds.{depth_small}
use Rattle.flac_frame.proofs.pair.keep_pair.Goals as goal

pub returns-clause-kept : goal.returns-clause-kept
returns-clause-kept c =
    let a = c.args.audio.now in
    let n = length c.args.first.now in
    let both = ap (λ (k : List ℤ). k ∷ c.part-right.result.now ∷ []) c.part-left.ensures.part ∙ ap (λ (k : List ℤ). take n (drop c.args.start (get_or a.channels 0 [])) ∷ k ∷ []) c.part-right.ensures.part ∙ two_parts c.args.start n a.channels c.requires.two in
    ap (kept_as (code_of c.args.assignment)) (sym both) ∙ c.put_kept.ensures.kept

pub returns-clause-first_fits : goal.returns-clause-first_fits
returns-clause-first_fits c =
    let good = c.channels-channels.ensures.sound in
    let a = c.args.audio.now in
    let n = length c.args.first.now in
    let l = subst (All (FitsBits a.bits)) (sym c.part-left.ensures.part) (part_small a good c.args.start n 0 a.bits refl (omega (arith, c.requires.two))) in
    let r = subst (All (FitsBits a.bits)) (sym c.part-right.ensures.part) (part_small a good c.args.start n 1 a.bits refl (omega (arith, c.requires.two))) in
    (c.put_kept.ensures.fits a.bits (depth_small a.profile a.bits good.bits).0 l r).0

pub returns-clause-second_fits : goal.returns-clause-second_fits
returns-clause-second_fits c =
    let good = c.channels-channels.ensures.sound in
    let a = c.args.audio.now in
    let n = length c.args.first.now in
    let l = subst (All (FitsBits a.bits)) (sym c.part-left.ensures.part) (part_small a good c.args.start n 0 a.bits refl (omega (arith, c.requires.two))) in
    let r = subst (All (FitsBits a.bits)) (sym c.part-right.ensures.part) (part_small a good c.args.start n 1 a.bits refl (omega (arith, c.requires.two))) in
    (c.put_kept.ensures.fits a.bits (depth_small a.profile a.bits good.bits).0 l r).1
