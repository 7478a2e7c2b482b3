use Rattle.std.proofs.lemmas.Result.{err_from_is_err_and}
use Rattle.flac_cli.specs.Asked.{asked_of}
use Rattle.flac_cli.proofs.WaveRefused.{refused_file}
use Rattle.flac_cli.proofs.encode_wave.taken_apart.Goals as goal

pub returns-in_err-file-clause-refused : goal.returns-in_err-file-clause-refused
returns-in_err-file-clause-refused g c =
    let p = err_from_is_err_and c.from_residual.result c.from_residual.ensures.1 in
    rw (p.1, p.2) (λ known same. refused_file (asked_of c.args.encoding.now) c.args.predictors.items (g.R.Source.coming c.args.source.now) _ (c.in_err-file.ensures.fault known same))

pub returns-in_err-ready-clause-refused : goal.returns-in_err-ready-clause-refused
returns-in_err-ready-clause-refused g c =
    let p = err_from_is_err_and c.from_residual-in_err-ready.result c.from_residual-in_err-ready.ensures.1 in
    rw (p.1, p.2) (λ known same. c.in_err-ready.ensures.refused (g.R.Source.coming c.args.source.now) (c.in_ok-file.ensures.taken known))

pub returns-clause-found : goal.returns-clause-found
returns-clause-found g c = λ known. c.in_ok-ready.ensures.found (g.R.Source.coming c.args.source.now) (c.in_ok-file.ensures.taken known)
