use Rattle.std.proofs.Common.{◌∙◌, ℤ, Vec, Global, map, refl, ap}
use Rattle.std.proofs.lemmas.Result.{err_from_is_err_and}
use Rattle.flac_cli.specs.Recoded.{carried}
use Rattle.flac_cli.specs.Salvages.{is_shorter, fitting}
use Rattle.flac_cli.proofs.Salvages.{unmade, no_memory, not_salvage, not_input, begun_fits}
use Rattle.flac_cli.proofs.salvage.held_of.Goals as goal

pub returns-clause-held : goal.returns-clause-held
returns-clause-held c =
    let made = c.in_ok-channels.ensures in
    let info = c.requires.info in
    let blocks = c.in_ok-blocks.ensures.kept ∙ ap (λ bs. carried (fitting c.is_shorter-shorter.result bs)) (c.deref.ensures.value ∙ info.is)
    ∙ begun_fits c.is_shorter-shorter.result _ info.more ∙ ap (λ k. carried (fitting k info.more)) c.is_shorter-shorter.ensures.shorter in (
      fitting (is_shorter c.args.silence c.args.survey.now) info.more,
      map (λ (v : Vec ℤ Global). v.items) c.in_ok-channels.channels.items,
      record { survey = c.requires; more = info.more; blocks = info.is; fit = refl; samples = made.made; bounded = made.accepted },
      record { stated = refl; kept = blocks; heard = refl },
    )

pub returns-in_err-channels-clause-refused : goal.returns-in_err-channels-clause-refused
returns-in_err-channels-clause-refused c =
    let p = err_from_is_err_and c.from_residual.result c.from_residual.ensures.1 in
    rw (p.1, p.2) (unmade c.args.silence c.args.survey.now _ c.in_err-channels.ensures.fault)

pub returns-in_err-channels-clause-unwritten : goal.returns-in_err-channels-clause-unwritten
returns-in_err-channels-clause-unwritten c =
    let p = err_from_is_err_and c.from_residual.result c.from_residual.ensures.1 in
    rw (p.1, p.2) (λ e. not_salvage _ e)

pub returns-in_err-blocks-clause-refused : goal.returns-in_err-blocks-clause-refused
returns-in_err-blocks-clause-refused c =
    let p = err_from_is_err_and c.from_residual-in_err-blocks.result c.from_residual-in_err-blocks.ensures.1 in
    rw (p.1, p.2) (no_memory _ c.in_err-blocks.ensures.memory)

pub returns-in_err-blocks-clause-unwritten : goal.returns-in_err-blocks-clause-unwritten
returns-in_err-blocks-clause-unwritten c =
    let p = err_from_is_err_and c.from_residual-in_err-blocks.result c.from_residual-in_err-blocks.ensures.1 in
    rw (p.1, p.2) (λ e. not_input _ e)
