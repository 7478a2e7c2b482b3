use Rattle.std.proofs.lemmas.Result.{err_from_is_err_and}
use Rattle.flac_cli.specs.Asked.{asked_of}
use Rattle.flac_cli.proofs.WaveRefused.{refused_file}
use Rattle.flac_cli.proofs.encode_wave_twice.first_pass.Goals as goal

pub returns-in_err-file-clause-refused : goal.returns-in_err-file-clause-refused
returns-in_err-file-clause-refused g c =
    let p = err_from_is_err_and c.from_residual.result c.from_residual.ensures.1 in
    rw (p.1, p.2) (λ known same. refused_file (asked_of c.args.encoding.now) c.args.predictors.items (g.A.Source.coming c.args.first.now) _ (c.in_err-file.ensures.fault known same))

pub returns-in_err-plan-clause-refused : goal.returns-in_err-plan-clause-refused
returns-in_err-plan-clause-refused g c =
    let p = err_from_is_err_and c.from_residual-in_err-plan.result c.from_residual-in_err-plan.ensures.1 in
    rw (p.1, p.2) (λ known same. c.in_err-plan.ensures.refused (g.A.Source.coming c.args.first.now) (c.in_ok-file.ensures.found known))

pub returns-clause-planned : goal.returns-clause-planned
returns-clause-planned g c = λ known. c.in_ok-plan.ensures.planned (g.A.Source.coming c.args.first.now) (c.in_ok-file.ensures.found known)
