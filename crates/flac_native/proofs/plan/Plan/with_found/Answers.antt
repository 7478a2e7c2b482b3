use Rattle.std.proofs.Common.{subst, ap, sym}
use Rattle.flac_frame.specs.Frame.{limits_at}
use Rattle.flac_native.specs.Given.{Cut, with_found, frame_lists, AreFoundWithin}
use Rattle.flac_native.proofs.Planned.{still_found}
use Rattle.flac_native.proofs.plan.Plan.with_found.Goals as goal

pub invariant_of-result : goal.invariant_of-result
invariant_of-result c =
    let found = frame_lists c.args.found.items in
    record {
      good = still_found _ found c.self.invariant.good;
      orders = subst (λ (p : Cut). AreFoundWithin (limits_at p.profile p.rate).linear found) (sym c.self.view_is) c.requires.orders;
    }

pub returns : goal.returns
returns c = ap (λ (p : Cut). with_found p (frame_lists c.args.found.items)) c.self.view_is
