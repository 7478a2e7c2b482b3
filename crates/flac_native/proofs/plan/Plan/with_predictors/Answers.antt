use Rattle.std.proofs.Common.{◌≡◌, All, subst, sym, ◌∙◌, None}
use Rattle.std.proofs.lemmas.List.Elements.{All-nil}
use Rattle.flac_frame.specs.Frame.{limits_at}
use Rattle.flac_subframe.specs.format.Handed.{AreWithin}
use Rattle.flac_native.specs.Given.{predictors_fault}
use Rattle.flac_native.proofs.Planned.{still_planned}
use Rattle.flac_native.proofs.plan.Plan.with_predictors.Goals as goal

pub invariant_of-result : goal.invariant_of-result
invariant_of-result c =
    let asked = c.self.inside.asked in
    record {
      good = still_planned _ c.args.predictors.items c.self.invariant.good
          (subst (λ ps. predictors_fault asked.profile asked.rate ps ≡ None) c.as_slice.ensures.value (sym c.predictors_fault.ensures ∙ c.in_default.is));
      orders = All-nil (All (AreWithin (limits_at asked.profile asked.rate).linear));
    }
