use Rattle.std.proofs.Common.{◌∙◌, refl, ap, subst, sym, ℤ, List, [], ◌∷◌, length, take, drop, get_or, All, arith}
use Rattle.flac_bits.specs.Signed.{FitsBits}
use Rattle.flac_frame.specs.Stereo.{side_of, middle_of}
use Rattle.flac_frame.proofs.Frames.{two_parts, part_small}
use Rattle.flac_frame.proofs.pair.split_pair.Goals as goal

pub returns-clause-block : goal.returns-clause-block
returns-clause-block c =
    let a = c.args.audio.now in
    let n = length c.args.left.now in
    ap (λ (k : List ℤ). k ∷ c.widen-2.new.out ∷ []) (c.widen.ensures ∙ c.part-lefts.ensures.part) ∙ ap (λ (k : List ℤ). take n (drop c.args.start (get_or a.channels 0 [])) ∷ k ∷ []) (c.widen-2.ensures ∙ c.part-rights.ensures.part)
    ∙ two_parts c.args.start n a.channels c.requires.two

pub returns-clause-side : goal.returns-clause-side
returns-clause-side c = c.split_channels.ensures.side ∙ ap (λ k. side_of k c.part-rights.result.now) (sym c.widen.ensures) ∙ ap (λ k. side_of c.widen.new.out k) (sym c.widen-2.ensures)

pub returns-clause-middle : goal.returns-clause-middle
returns-clause-middle c = c.split_channels.ensures.middle ∙ ap (λ k. middle_of k c.part-rights.result.now) (sym c.widen.ensures) ∙ ap (λ k. middle_of c.widen.new.out k) (sym c.widen-2.ensures)

pub returns-clause-left_fits : goal.returns-clause-left_fits
returns-clause-left_fits c =
    let a = c.args.audio.now in
    subst (All (FitsBits a.bits)) (sym (c.widen.ensures ∙ c.part-lefts.ensures.part)) (part_small a c.channels-channels.ensures.sound c.args.start (length c.args.left.now) 0 a.bits refl (omega (arith, c.requires.two)))

pub returns-clause-right_fits : goal.returns-clause-right_fits
returns-clause-right_fits c =
    let a = c.args.audio.now in
    subst (All (FitsBits a.bits)) (sym (c.widen-2.ensures ∙ c.part-rights.ensures.part)) (part_small a c.channels-channels.ensures.sound c.args.start (length c.args.left.now) 1 a.bits refl (omega (arith, c.requires.two)))
