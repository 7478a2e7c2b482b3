use Rattle.std.proofs.Common.{ap, inl}
use Rattle.std.proofs.lemmas.Result.{err_from_is_err_and}
use Rattle.flac_native.specs.Given.{Cut}
use Rattle.flac_cli.specs.Asked.{asked_of}
use Rattle.flac_cli.specs.inner.Holding.{view_of}
use Rattle.flac_cli.specs.declared.encode.Refusal.TheVariants.{Input}
use Rattle.flac_cli.proofs.Recoding.{held_audio, held_plan, held_blocks, held_ready, not_held}
use Rattle.flac_cli.proofs.recode.ready_of.Goals as goal

pub returns-in_default-clause-refused : goal.returns-in_default-clause-refused
returns-in_default-clause-refused c = λ info list frames t. not_held (view_of c.args.held) info list frames c.in_default.is t

pub returns-in_err-audio-clause-refused : goal.returns-in_err-audio-clause-refused
returns-in_err-audio-clause-refused c =
    let p = err_from_is_err_and c.from_residual.result c.from_residual.ensures.1 in
    rw (p.1, p.2) (λ info list frames t. held_audio (asked_of c.args.encoding.now) c.args.predictors.items (view_of c.args.held) c.in-Some.info c.in-Some.is info list frames t _ c.in_err-audio.ensures.made)

pub returns-in_err-plan-clause-refused : goal.returns-in_err-plan-clause-refused
returns-in_err-plan-clause-refused c =
    let p = err_from_is_err_and c.from_residual-in_err-plan.result c.from_residual-in_err-plan.ensures.1 in
    let a = c.in_ok-audio.ensures in
    rw (p.1, p.2) (λ info list frames t.
    held_plan (asked_of c.args.encoding.now) c.args.predictors.items (view_of c.args.held) c.in-Some.info c.in-Some.is info list frames t c.in_ok-audio.audio a.made a.good _ c.in_err-plan.ensures.made)

pub returns-in_err-ordered-clause-refused : goal.returns-in_err-ordered-clause-refused
returns-in_err-ordered-clause-refused c =
    let p = err_from_is_err_and c.from_residual-in_err-ordered.result c.from_residual-in_err-ordered.ensures.1 in
    rw (p.1, p.2) (λ info list frames t. inl (inl (ap Input c.in_err-ordered.ensures.memory)))

pub returns-in_err-list-clause-refused : goal.returns-in_err-list-clause-refused
returns-in_err-list-clause-refused c =
    let p = err_from_is_err_and c.from_residual-in_err-list.result c.from_residual-in_err-list.ensures.1 in
    let a = c.in_ok-audio.ensures in
    let plan = c.in_ok-plan.ensures in
    rw (p.1, p.2) (λ info list frames t.
    held_blocks (asked_of c.args.encoding.now) c.args.predictors.items (view_of c.args.held) c.in-Some.info c.in-Some.is info list frames t c.in_ok-audio.audio a.made a.good c.in_ok-plan.plan plan.made plan.good
    c.in_ok-ordered.ordered.items c.in_ok-ordered.ensures.order _ c.in_err-list.ensures.found)

pub returns-clause-found : goal.returns-clause-found
returns-clause-found c =
    let a = c.in_ok-audio.ensures in
    let plan = c.in_ok-plan.ensures in
    let list = c.in_ok-list.ensures in
    λ info blocks frames t.
    held_ready (asked_of c.args.encoding.now) c.args.predictors.items (view_of c.args.held) c.in-Some.info c.in-Some.is info blocks frames t c.in_ok-audio.audio a.made a.good c.in_ok-plan.plan plan.made plan.good
    c.in_ok-ordered.ordered.items c.in_ok-ordered.ensures.order c.in_ok-list.list list.found list.good

pub returns-clause-none : goal.returns-clause-none
returns-clause-none c = ap (λ (k : Cut). k.found) c.in_ok-plan.ensures.made
