use Rattle.std.proofs.Common.{subst}
use Rattle.flac_subframe.specs.format.Handed.{AreWithin}
use Rattle.flac_frame.specs.Frame.{limits_at}
use Rattle.flac_native.specs.Given.{Cut}
use Rattle.flac_native.proofs.Planned.{planned, own_orders}
use Rattle.flac_native.proofs.plan.Plan.predictors.Goals as goal

pub returns-in-Some-clause-orders : goal.returns-in-Some-clause-orders
returns-in-Some-clause-orders c = subst (λ (p : Cut). AreWithin (limits_at p.profile p.rate).linear p.predictors) c.self.view_is (own_orders _ (planned _ c.self.invariant.good))
