use Rattle.std.proofs.Common.{◌+◌}
use Rattle.std.proofs.lemmas.Result.{on_ok_weaker}
use Rattle.flac_edit.specs.inner.Changed.{olds_before}
use Rattle.flac_edit.proofs.BeforeComments.{before_flips}
use Rattle.flac_edit.proofs.HasRuns.{reads, unwritten}
use Rattle.flac_edit.proofs.padding.edit_before.Goals as goal

pub returns-in-Ok-clause-any_moment : goal.returns-in-Ok-clause-any_moment
returns-in-Ok-clause-any_moment g c =
    let p = c.args.place.now in
    λ k front more rest frames mark s. c.flip.ensures.any_moment k _ _ frames (before_flips front more rest frames mark p.last c.args.comments.now p.at p.padding p.following c.in-Ok.plan _ s c.in-Ok.ensures.is)

pub returns-in-Ok-clause-edited : goal.returns-in-Ok-clause-edited
returns-in-Ok-clause-edited g c =
    let p = c.args.place.now in
    on_ok_weaker c.flip.result (λ edited k front more rest frames mark s. edited k _ _ frames (before_flips front more rest frames mark p.last c.args.comments.now p.at p.padding p.following c.in-Ok.plan _ s c.in-Ok.ensures.is)) c.flip.ensures.edited

pub returns-in-Err-clause-any_moment : goal.returns-in-Err-clause-any_moment
returns-in-Err-clause-any_moment g c =
    let p = c.args.place.now in
    λ k front more rest frames mark s. unwritten (g.D.Device.time c.args.device.now) _ _ frames _ (reads front (olds_before mark p.padding more) rest frames p.at (4 + p.padding + p.following) _ s) (c.requires.durable k) (λ f left. g.met.D.Device.only_now c.args.device.now f k left)
