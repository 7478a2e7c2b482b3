use Rattle.std.proofs.Common.{◌≡◌, true, IfOk, subst}
use Rattle.flac_edit.specs.inner.Chosen.{LeavesOldOrChanged, HasChanged}
use Rattle.flac_edit.proofs.choosing.change_in_place.Goals as goal

pub returns-clause-any_moment : goal.returns-clause-any_moment
returns-clause-any_moment g c =
    let same : c.try_first_before.new.device ≡ c.args.device.now = c.in_ok-try_first_before.ensures.untouched c.if-branch.false in
    subst
    (λ d. g.D.Device.known d ≡ true → LeavesOldOrChanged c.args.slots.now c.args.comments.now (g.D.Device.seen d) (g.D.Device.time d) (g.D.Device.time c.try_first_after.new.device))
    same
    c.try_first_after.ensures.any_moment

pub returns-clause-edited : goal.returns-clause-edited
returns-clause-edited g c =
    let same : c.try_first_before.new.device ≡ c.args.device.now = c.in_ok-try_first_before.ensures.untouched c.if-branch.false in
    subst
    (λ d. IfOk c.try_first_after.result (λ done. done ≡ true → g.D.Device.known d ≡ true → HasChanged c.args.slots.now c.args.comments.now (g.D.Device.seen d) (g.D.Device.seen c.try_first_after.new.device)))
    same
    c.try_first_after.ensures.edited
