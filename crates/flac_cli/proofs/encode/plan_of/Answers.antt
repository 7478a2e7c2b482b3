use Rattle.std.proofs.Common.{◌≡◌, Some, None, refl, subst}
use Rattle.std.proofs.lemmas.Result.{err_from_is_err_and}
use Rattle.flac_native.specs.Given.{cut_of, predictors_fault, plan_fault}
use Rattle.flac_cli.proofs.Planning.{with_none, with_some}
use Rattle.flac_cli.proofs.encode.plan_of.Goals as goal

pub returns-in_err-plan-clause-made : goal.returns-in_err-plan-clause-made
returns-in_err-plan-clause-made c =
    let p = err_from_is_err_and c.from_residual.result c.from_residual.ensures.1 in
    let cut = cut_of c.args.format.block c.args.audio.now c.args.format.seek_every in
    rw (p.1, p.2) (with_none cut c.args.predictors.items _ refl c.in_err-plan.ensures.made)

pub returns-in_err-tried-clause-made : goal.returns-in_err-tried-clause-made
returns-in_err-tried-clause-made c =
    let p = err_from_is_err_and c.from_residual-in_err-tried.result c.from_residual-in_err-tried.ensures.1 in
    let cut = cut_of c.args.format.block c.args.audio.now c.args.format.seek_every in
    let ps = c.args.predictors.items in
    let is : c.in_ok-plan.plan ≡ cut = c.in_ok-plan.ensures.made in
    let good : plan_fault cut ≡ None = subst (λ k. plan_fault k ≡ None) is c.block_size-size.ensures.good in
    let fault : predictors_fault cut.profile cut.rate ps ≡ Some c.in_err-tried.field-0.0 = subst (λ k. predictors_fault k.profile k.rate ps ≡ Some c.in_err-tried.field-0.0) is c.in_err-tried.ensures in
    rw (p.1, p.2) (with_some cut ps _ good fault)
