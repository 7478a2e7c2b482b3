use Rattle.std.proofs.Common.{◌≤◌, ◌∙◌, ap, sym, subst, ℤ, List, All, [], ◌∷◌}
use Rattle.flac_bits.specs.Signed.{FitsBits}
use Rattle.flac_header.specs.Assignment.{code_of}
use Rattle.flac_frame.specs.Frame.{side_bit}
use Rattle.flac_frame.specs.Stereo.{kept_as, side_of}
use Rattle.flac_frame.proofs.Assigned.{apart_code, no_bit}
use Rattle.flac_frame.proofs.Chosen.{plain_at, side_at, middle_at}
use Rattle.flac_frame.proofs.Family.{kept_same}
use Rattle.flac_frame.proofs.PairLeast.{kept_8, kept_9, kept_10, bits_8, bits_9, bits_10}
use Rattle.flac_frame.proofs.pair.put_kept.Goals as goal

pub returns-in-Independent-clause-kept : goal.returns-in-Independent-clause-kept
returns-in-Independent-clause-kept c =
    let l = c.args.left.now in
    let r = c.args.right.now in
    let low : code_of c.args.assignment ≤ 7 = apart_code c.args.assignment _ c.in-Independent.is c.requires.valid in
    kept_same (code_of c.args.assignment) (l ∷ r ∷ []) low ∙ ap (λ (k : List ℤ). k ∷ r ∷ []) (sym c.widen.ensures) ∙ ap (λ (k : List ℤ). c.widen.new.out ∷ k ∷ []) (sym c.widen-in-Independent.ensures)

pub returns-in-Independent-clause-fits : goal.returns-in-Independent-clause-fits
returns-in-Independent-clause-fits c = λ depth deep l r.
    let code = code_of c.args.assignment in
    let low : code ≤ 7 = apart_code c.args.assignment _ c.in-Independent.is c.requires.valid in
    (plain_at code 0 depth c.widen.new.out (no_bit code 0 low) (subst (All (FitsBits depth)) (sym c.widen.ensures) l), plain_at code 1 depth c.widen-in-Independent.new.out (no_bit code 1 low) (subst (All (FitsBits depth)) (sym c.widen-in-Independent.ensures) r))

pub returns-in-LeftSide-clause-kept : goal.returns-in-LeftSide-clause-kept
returns-in-LeftSide-clause-kept c =
    let l = c.args.left.now in
    let r = c.args.right.now in
    ap (λ a. kept_as (code_of a) (l ∷ r ∷ [])) c.in-LeftSide.is ∙ kept_8 l r ∙ ap (λ (k : List ℤ). k ∷ side_of l r ∷ []) (sym c.widen-in-LeftSide.ensures) ∙ ap (λ (k : List ℤ). c.widen-in-LeftSide.new.out ∷ k ∷ []) (sym c.put_side.ensures)

pub returns-in-LeftSide-clause-fits : goal.returns-in-LeftSide-clause-fits
returns-in-LeftSide-clause-fits c = λ depth deep l r.
    let code = code_of c.args.assignment in (
      plain_at code 0 depth c.widen-in-LeftSide.new.out (ap (λ a. side_bit (code_of a) 0) c.in-LeftSide.is ∙ bits_8.0) (subst (All (FitsBits depth)) (sym c.widen-in-LeftSide.ensures) l),
      side_at code 1 depth c.put_side.new.side c.args.left.now c.args.right.now (ap (λ a. side_bit (code_of a) 1) c.in-LeftSide.is ∙ bits_8.1) c.put_side.ensures c.requires.long deep l r,
    )

pub returns-in-SideRight-clause-kept : goal.returns-in-SideRight-clause-kept
returns-in-SideRight-clause-kept c =
    let l = c.args.left.now in
    let r = c.args.right.now in
    ap (λ a. kept_as (code_of a) (l ∷ r ∷ [])) c.in-SideRight.is ∙ kept_9 l r ∙ ap (λ (k : List ℤ). k ∷ r ∷ []) (sym c.put_side-in-SideRight.ensures) ∙ ap (λ (k : List ℤ). c.put_side-in-SideRight.new.side ∷ k ∷ []) (sym c.widen-in-SideRight.ensures)

pub returns-in-SideRight-clause-fits : goal.returns-in-SideRight-clause-fits
returns-in-SideRight-clause-fits c = λ depth deep l r.
    let code = code_of c.args.assignment in (
      side_at code 0 depth c.put_side-in-SideRight.new.side c.args.left.now c.args.right.now (ap (λ a. side_bit (code_of a) 0) c.in-SideRight.is ∙ bits_9.0) c.put_side-in-SideRight.ensures c.requires.long deep l r,
      plain_at code 1 depth c.widen-in-SideRight.new.out (ap (λ a. side_bit (code_of a) 1) c.in-SideRight.is ∙ bits_9.1) (subst (All (FitsBits depth)) (sym c.widen-in-SideRight.ensures) r),
    )

pub returns-in-MidSide-clause-kept : goal.returns-in-MidSide-clause-kept
returns-in-MidSide-clause-kept c =
    let l = c.args.left.now in
    let r = c.args.right.now in
    ap (λ a. kept_as (code_of a) (l ∷ r ∷ [])) c.in-MidSide.is ∙ kept_10 l r ∙ ap (λ (k : List ℤ). k ∷ side_of l r ∷ []) (sym c.split_channels.ensures.middle) ∙ ap (λ (k : List ℤ). c.split_channels.new.middle ∷ k ∷ []) (sym c.split_channels.ensures.side)

pub returns-in-MidSide-clause-fits : goal.returns-in-MidSide-clause-fits
returns-in-MidSide-clause-fits c = λ depth deep l r.
    let code = code_of c.args.assignment in (
      middle_at code 0 depth c.split_channels.new.middle c.args.left.now c.args.right.now (ap (λ a. side_bit (code_of a) 0) c.in-MidSide.is ∙ bits_10.0) c.split_channels.ensures.middle c.requires.long l r,
      side_at code 1 depth c.split_channels.new.side c.args.left.now c.args.right.now (ap (λ a. side_bit (code_of a) 1) c.in-MidSide.is ∙ bits_10.1) c.split_channels.ensures.side c.requires.long deep l r,
    )
