use Rattle.std.proofs.Common.{◌∙◌, ◌++◌, ap, sym, subst}
use Rattle.std.proofs.lemmas.Result.{err_from_is_err_and}
use Rattle.flac_cli.specs.Asked.{asked_of}
use Rattle.flac_cli.specs.inner.Preparing.{blocks_with}
use Rattle.flac_cli.proofs.WaveTwices.{plan_stops, list_refused, plan_is, form_of}
use Rattle.flac_cli.proofs.encode_wave_twice.planned_of.Goals as goal

pub returns-in_err-plan-clause-refused : goal.returns-in_err-plan-clause-refused
returns-in_err-plan-clause-refused c =
    let p = err_from_is_err_and c.from_residual.result c.from_residual.ensures.1 in
    rw (p.1, p.2) (λ bytes s. plan_stops c.args.encoding.now c.args.predictors.items c.args.file c.requires.range bytes s c.format_of-format.result c.format_of-format.ensures _ c.in_err-plan.ensures.refused)

pub returns-in_err-list-clause-refused : goal.returns-in_err-list-clause-refused
returns-in_err-list-clause-refused c =
    let p = err_from_is_err_and c.from_residual-in_err-list.result c.from_residual-in_err-list.ensures.1 in
    let made = c.in_ok-plan.ensures.made in
    let bad = rw (c.as_slice.ensures.value, c.as_slice-2.ensures.value) at c.in_err-list.ensures.refused in
    rw (p.1, p.2) (λ bytes s. list_refused c.args.encoding.now c.args.predictors.items c.args.file c.requires.range bytes s c.format_of-format.result c.format_of-format.ensures made.sound made.short made.good _ bad)

pub returns-clause-planned : goal.returns-clause-planned
returns-clause-planned c =
    let made = c.in_ok-plan.ensures.made in
    let list = rw (c.as_slice.ensures.value, c.as_slice-2.ensures.value) at c.in_ok-list.ensures.list in
    let fit = rw (c.as_slice.ensures.value, c.as_slice-2.ensures.value) at c.in_ok-list.ensures.accepted in
    λ bytes s.
    plan_is c.args.encoding.now c.args.predictors.items c.args.file c.requires.range bytes s c.format_of-format.result c.format_of-format.ensures made.sound made.short made.good c.in_ok-plan.plan c.in_ok-list.list _ made.made list c.sample_width.ensures fit

pub returns-clause-form : goal.returns-clause-form
returns-clause-form c = form_of c.args.file.format c.args.file.samples.depth _ c.requires.range c.requires.room c.sample_width.ensures
