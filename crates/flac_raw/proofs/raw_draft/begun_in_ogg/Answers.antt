use Rattle.std.proofs.Common.{◌∙◌, ap, subst, arith}
use Rattle.std.proofs.lemmas.Result.{err_from_is_err_and}
use Rattle.flac_native.specs.Given.{predictors_fault}
use Rattle.flac_native.proofs.Planned.{planned}
use Rattle.flac_encoder.specs.Pushing.{Pushed, IsFirst}
use Rattle.flac_jobs.specs.declared.formats.ContainerKind.TheVariants as container
use Rattle.flac_raw.specs.Planned.{Planned, raw_cut}
use Rattle.flac_raw.specs.Encoded.{container_fault}
use Rattle.flac_raw.proofs.Planning.{ogg_is}
use Rattle.flac_raw.proofs.raw_draft.begun_in_ogg.Goals as goal

pub returns-in_err-encoder-clause-refused : goal.returns-in_err-encoder-clause-refused
returns-in_err-encoder-clause-refused g c =
    let p = err_from_is_err_and c.from_residual.result c.from_residual.ensures.1 in
    let i = c.plan.inside in
    rw (p.1, p.2) (subst (λ (q : Planned). IsFirst (container_fault (container.Ogg c.args.serial) q c.args.list) c.in_err-encoder.field-0.0) c.plan.view_is
    (subst (λ o. IsFirst o c.in_err-encoder.field-0.0) (ogg_is i.profile i.format i.total i.predictors.items c.plan.invariant c.args.serial i.search c.args.list (omega (arith, c.if-format-gt0.false))) c.in_err-encoder.ensures.refused))

pub try_in_ogg-requires : goal.try_in_ogg-requires
try_in_ogg-requires g c =
    let i = c.plan.inside in
    ap (λ (q : Pushed g.row.W.Denot). predictors_fault q.shape.profile q.shape.rate i.predictors.items) c.in_ok-encoder.ensures.made
    ∙ (planned (raw_cut i.profile i.format i.total i.predictors.items) c.plan.invariant).predictors
