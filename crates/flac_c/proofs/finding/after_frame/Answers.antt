use Rattle.std.proofs.Common.{ℕ, ◌+◌, List, drop, inr, sym, ap, subst, ◌∙◌}
use Rattle.flac_info.specs.Info.{Info}
use Rattle.flac_frame.specs.Frame.{Frame}
use Rattle.flac_c.specs.Cursors.{passed}
use Rattle.flac_native.specs.FrameAt.{IsFrameAt}
use Rattle.flac_c.proofs.Passing.{answered}
use Rattle.flac_c.proofs.finding.after_frame.Goals as goal

pub returns-in-Ok-clause-only : goal.returns-in-Ok-clause-only
returns-in-Ok-clause-only c = λ rules f n there.
    let old = c.args.cursor.now in
    let by_info = subst (λ (i : Info). IsFrameAt c.args.profile i (drop old.offset c.args.bytes.now) f n) (sym c.in_ok-info.ensures.value) there in
    let same = c.in-Ok.ensures.only f n (subst (λ (l : List ℕ). IsFrameAt c.args.profile c.in_ok-info.info l f n) (sym c.bytes_from-rest.ensures) by_info) in
    let is = c.passed.ensures ∙ ap (λ (g : Frame). passed old g (old.offset + c.in-Ok.taken)) (c.view.ensures ∙ same.0) ∙ ap (λ (m : ℕ). passed old f (old.offset + m)) same.1 in
    inr (ap answered is)

pub returns-clause-only : goal.returns-clause-only
returns-clause-only c = λ rules f n there.
    let old = c.args.cursor.now in
    let by_info = subst (λ (i : Info). IsFrameAt c.args.profile i (drop old.offset c.args.bytes.now) f n) (sym c.in_ok-info.ensures.value) there in
    absurd (c.in-Err.ensures.only f n (subst (λ (l : List ℕ). IsFrameAt c.args.profile c.in_ok-info.info l f n) (sym c.bytes_from-rest.ensures) by_info))
