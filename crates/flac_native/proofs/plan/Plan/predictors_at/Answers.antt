use Rattle.std.proofs.Common.{sym, subst}
use Rattle.flac_frame.specs.Frame.{limits_at}
use Rattle.flac_frame.specs.PlaneLists.{Lists, AreAllWithin}
use Rattle.flac_native.proofs.Planned.{orders_tried, tried_is}
use Rattle.flac_native.proofs.plan.Plan.predictors_at.Goals as goal

pub returns-clause-tried : goal.returns-clause-tried
returns-clause-tried c = tried_is c.args.self.now c.args.number _ _ _ c.lists_at.ensures c.found.ensures.lists c.predictors.ensures.list

pub returns-clause-orders : goal.returns-clause-orders
returns-clause-orders c =
    let p = c.args.self.now in
    let is = tried_is p c.args.number _ _ _ c.lists_at.ensures c.found.ensures.lists c.predictors.ensures.list in
    let limit = (limits_at p.profile p.rate).linear in
    subst (λ (l : Lists). AreAllWithin limit l) (sym is) (orders_tried limit p c.args.number c.found.ensures.orders c.predictors.ensures.orders)
