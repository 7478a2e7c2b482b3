use Rattle.std.proofs.Common.{◌∙◌}
use Rattle.std.proofs.lemmas.Result.{IfOk-weaker}
use Rattle.flac_edit.proofs.Tied.{leaves, has_comments}
use Rattle.flac_edit.proofs.in_place.edit_in_place.Goals as goal

pub returns-clause-any_moment : goal.returns-clause-any_moment
returns-clause-any_moment g c =
    λ k. leaves c.args.slots.now c.args.comments.now _ _ _ c.comments_fit.ensures (c.change_in_place.ensures.any_moment k)

pub returns-clause-reads : goal.returns-clause-reads
returns-clause-reads g c =
    λ k m info list rest has.
    let j = c.change_in_place.ensures.known ∙ k in
    let device = c.change_in_place.new.device in
    let run = leaves c.args.slots.now c.args.comments.now _ _ _ c.comments_fit.ensures (c.change_in_place.ensures.any_moment k) m info list rest has in
    run.each (g.D.Device.seen device) (g.met.D.Device.counts_now device _ _ j run.later (g.met.D.Device.leaves_seen device j))

pub returns-clause-edited : goal.returns-clause-edited
returns-clause-edited g c =
    IfOk-weaker
    c.change_in_place.result
    _
    _
    (λ done changed yes k. has_comments c.args.slots.now c.args.comments.now _ _ c.comments_fit.ensures (changed yes k))
    c.change_in_place.ensures.edited
