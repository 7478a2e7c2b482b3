use Rattle.std.proofs.Common.{◌≡◌, ◌-◌, ℕ, List, length, sym, subst, ◌∙◌, arith}
use Rattle.std.proofs.lemmas.List.{take_rest}
use Rattle.flac_image.specs.Jpeg.{frame_in}
use Rattle.flac_image.proofs.Steps.{frame_more, frame_found, frame_none}
use Rattle.flac_image.proofs.jpeg.frame_in.Goals as goal

pub returns-in-Err : goal.returns-in-Err
returns-in-Err c = frame_found c.loop-left.left c.loop-left.rest.now c.in-Err.found c.loop-left-test.true (sym c.in-Err.ensures.value) ∙ c.loop-left.invariant

pub loop-left-preserved : goal.loop-left-preserved
loop-left-preserved c =
    subst (λ (r : List ℕ). frame_in (c.loop-left.left - 1) r ≡ frame_in (length c.args.bytes.now) c.args.bytes.now)
    (sym (take_rest c.loop-left.rest.now c.in-Ok.len))
    (frame_more c.loop-left.left c.loop-left.rest.now c.in-Ok.len c.loop-left-test.true (sym c.in-Ok.ensures.value) ∙ c.loop-left.invariant)

pub returns : goal.returns
returns c = frame_none c.loop-left.left c.loop-left.rest.now (omega (arith, c.loop-left-test.false)) ∙ c.loop-left.invariant
