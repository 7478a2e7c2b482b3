use Rattle.std.proofs.Common.{sym, subst}
use Rattle.flac_subframe.specs.search.Choices.{IsMadeIn, form_in}
use Rattle.flac_subframe.specs.format.Handed.{AreWithin}
use Rattle.flac_subframe.specs.declared.format.limits.Limits.{Limits}
use Rattle.flac_frame.specs.Encoding.{partition_limit}
use Rattle.flac_frame.specs.PlaneLists.{lists_of}
use Rattle.flac_frame.specs.inner.Pair.{IsChosen}
use Rattle.flac_frame.proofs.Capacities.{limits_are, partition_is, chosen_of}
use Rattle.flac_frame.proofs.plane.choose_plane.Goals as goal

pub choose_in-requires-clause-orders : goal.choose_in-requires-clause-orders
choose_in-requires-clause-orders c =
    let a = c.args.subject.now.audio.now in
    let own = limits_are c.profile.result a.profile c.rate.result a.rate c.limits_at-limits.result c.limits_at-limits.ensures.limits c.profile.ensures c.rate.ensures in
    subst (AreWithin c.limits_at-limits.result.linear) (sym c.list-predictors.ensures)
    (subst (λ (l : Limits). AreWithin l.linear (lists_of c.args.subject.now.predictors.now c.args.plane)) (sym own) (c.requires.orders c.args.plane))

pub returns-clause-chosen : goal.returns-clause-chosen
returns-clause-chosen c =
    let a = c.args.subject.now.audio.now in
    let s = c.args.samples.now in
    let e = c.choose_in.ensures in
    let is = partition_is c.profile.result a.profile c.rate.result a.rate c.limits_at-limits.result c.limits_at-limits.ensures.limits c.profile.ensures c.rate.ensures in
    let ps = c.list-predictors.result.now in
    let chosen = chosen_of (partition_limit a) ps c.args.depth s (form_in ps c.choose_in.new.choice s) c.choose_in.new.choice.bits c.limits_at-limits.result is e.least e.bits e.valid e.restored in
    subst (λ qs. IsChosen (partition_limit a) qs c.args.depth s (form_in qs c.choose_in.new.choice s) c.choose_in.new.choice.bits) c.list-predictors.ensures chosen

pub returns-clause-made : goal.returns-clause-made
returns-clause-made c = subst (λ qs. IsMadeIn qs c.choose_in.new.choice c.args.samples.now) c.list-predictors.ensures c.choose_in.ensures.made
