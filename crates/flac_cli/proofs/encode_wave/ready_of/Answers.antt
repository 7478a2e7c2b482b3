use Rattle.std.proofs.Common.{ap}
use Rattle.std.proofs.lemmas.Result.{err_from_is_err_and}
use Rattle.flac_native.specs.Given.{Cut}
use Rattle.flac_cli.specs.Asked.{asked_of}
use Rattle.flac_cli.proofs.WaveReady.{ready_audio, ready_plan, ready_list, ready_all}
use Rattle.flac_cli.proofs.encode_wave.ready_of.Goals as goal

pub returns-in_err-audio-clause-refused : goal.returns-in_err-audio-clause-refused
returns-in_err-audio-clause-refused c =
    let p = err_from_is_err_and c.from_residual.result c.from_residual.ensures.1 in
    let format = c.format_of-format.result in
    rw (p.1, p.2) (λ bytes t. ready_audio (asked_of c.args.encoding.now) c.args.predictors.items bytes c.args.file t format c.format_of-format.ensures _ c.in_err-audio.ensures)

pub returns-in_err-plan-clause-refused : goal.returns-in_err-plan-clause-refused
returns-in_err-plan-clause-refused c =
    let p = err_from_is_err_and c.from_residual-in_err-plan.result c.from_residual-in_err-plan.ensures.1 in
    let format = c.format_of-format.result in
    rw (p.1, p.2) (λ bytes t.
    ready_plan (asked_of c.args.encoding.now) c.args.predictors.items bytes c.args.file t format c.format_of-format.ensures c.in_ok-audio.audio c.in_ok-audio.ensures _ c.in_err-plan.ensures.made)

pub returns-in_err-list-clause-refused : goal.returns-in_err-list-clause-refused
returns-in_err-list-clause-refused c =
    let p = err_from_is_err_and c.from_residual-in_err-list.result c.from_residual-in_err-list.ensures.1 in
    let format = c.format_of-format.result in
    let plan = c.in_ok-plan.ensures in
    let bad = rw (c.as_slice.ensures.value, c.as_slice-2.ensures.value) at c.in_err-list.ensures.refused in
    rw (p.1, p.2) (λ bytes t.
    ready_list (asked_of c.args.encoding.now) c.args.predictors.items bytes c.args.file t format c.format_of-format.ensures c.in_ok-audio.audio c.in_ok-audio.ensures c.in_ok-plan.plan plan.made plan.good _ bad)

pub returns-clause-found : goal.returns-clause-found
returns-clause-found c =
    let format = c.format_of-format.result in
    let plan = c.in_ok-plan.ensures in
    let list = rw (c.as_slice.ensures.value, c.as_slice-2.ensures.value) at c.in_ok-list.ensures.list in
    let fit = rw (c.as_slice.ensures.value, c.as_slice-2.ensures.value) at c.in_ok-list.ensures.accepted in
    λ bytes t.
    ready_all (asked_of c.args.encoding.now) c.args.predictors.items bytes c.args.file t format c.format_of-format.ensures c.in_ok-audio.audio c.in_ok-audio.ensures c.in_ok-plan.plan plan.made plan.good c.in_ok-list.list plan.fits list fit

pub returns-clause-none : goal.returns-clause-none
returns-clause-none c = ap (λ (k : Cut). k.found) c.in_ok-plan.ensures.made
