use Rattle.std.proofs.Common.{ℕ, ◌+◌, List, sym, subst, ◌∙◌}
use Rattle.flac_frame.specs.Frame.{Frame}
use Rattle.flac_c.specs.Cursors.{HandsOver}
use Rattle.flac_native.specs.FrameAt.{IsFrameAt}
use Rattle.flac_c.proofs.stepping.step.Goals as goal

pub returns-in-Err-clause-only : goal.returns-in-Err-clause-only
returns-in-Err-clause-only c = λ f n there. c.in-Err.ensures.only f n (subst (λ (l : List ℕ). IsFrameAt c.args.profile c.args.info.now l f n) (sym c.bytes_from.ensures) there)

pub returns-clause-only : goal.returns-clause-only
returns-clause-only c = λ f n there.
    let same = c.in-Ok.ensures.only f n (subst (λ (l : List ℕ). IsFrameAt c.args.profile c.args.info.now l f n) (sym c.bytes_from.ensures) there) in
    let over = subst (λ (g : Frame). HandsOver g (c.args.cursor.now.offset + c.in-Ok.taken) c.args.cursor.now c.hand_over.new.cursor c.args.out.now c.hand_over.new.out c.hand_over.result) (c.view.ensures ∙ same.0) c.hand_over.ensures in
    subst (λ (m : ℕ). HandsOver f (c.args.cursor.now.offset + m) c.args.cursor.now c.hand_over.new.cursor c.args.out.now c.hand_over.new.out c.hand_over.result) same.1 over
