use Rattle.std.proofs.Common.{◌+◌}
use Rattle.std.proofs.lemmas.Result.{on_ok_weaker}
use Rattle.flac_edit.specs.inner.Changed.{olds_after}
use Rattle.flac_edit.proofs.AfterComments.{after_flips}
use Rattle.flac_edit.proofs.HasRuns.{reads, unwritten}
use Rattle.flac_edit.proofs.padding.edit_after.Goals as goal

pub returns-in-Ok-clause-any_moment : goal.returns-in-Ok-clause-any_moment
returns-in-Ok-clause-any_moment g c =
    let p = c.args.place.now in
    λ k front heads rest frames s. c.flip.ensures.any_moment k _ _ frames (after_flips front heads rest frames p.last c.args.comments.now p.at p.preceding p.padding c.in-Ok.plan _ s c.in-Ok.ensures.is)

pub returns-in-Ok-clause-edited : goal.returns-in-Ok-clause-edited
returns-in-Ok-clause-edited g c =
    let p = c.args.place.now in
    on_ok_weaker c.flip.result (λ edited k front heads rest frames s. edited k _ _ frames (after_flips front heads rest frames p.last c.args.comments.now p.at p.preceding p.padding c.in-Ok.plan _ s c.in-Ok.ensures.is)) c.flip.ensures.edited

pub returns-in-Err-clause-any_moment : goal.returns-in-Err-clause-any_moment
returns-in-Err-clause-any_moment g c =
    let p = c.args.place.now in
    λ k front heads rest frames s. unwritten (g.D.Device.time c.args.device.now) _ _ frames _ (reads front (olds_after heads p.last p.padding) rest frames p.at (p.preceding + 4 + p.padding) _ s) (c.requires.durable k) (λ f left. g.met.D.Device.only_now c.args.device.now f k left)
