use Rattle.std.proofs.Common.{ap, subst, ◌∙◌, ◌↔◌, IsTrue}
use Rattle.flac_frame.specs.Frame.{limits_at}
use Rattle.flac_native.specs.Given.{Cut, AreFoundWithin, frame_lists}
use Rattle.flac_native.proofs.plan.Plan.takes.Goals as goal

pub returns : goal.returns
returns c = subst (λ n. IsTrue c.found_are_within.result ↔ AreFoundWithin n (frame_lists c.args.found.now)) (c.greatest_order.ensures ∙ ap (λ (p : Cut). (limits_at p.profile p.rate).linear) c.self.view_is) c.found_are_within.ensures
