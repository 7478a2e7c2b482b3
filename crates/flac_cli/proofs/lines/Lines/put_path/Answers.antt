use Rattle.std.proofs.Common.{ap}
use Rattle.std.proofs.lemmas.Result.{err_from_is_err_and}
use Rattle.flac_shelf.specs.Shown.{shown}
use Rattle.flac_cli.proofs.Lined.{adds_then, adds_same, lost, adds_lost}
use Rattle.flac_cli.proofs.lines.Lines.put_path.Goals as goal

pub returns-in_err-put : goal.returns-in_err-put
returns-in_err-put g c =
    let p = err_from_is_err_and c.from_residual.result c.from_residual.ensures.1 in
    rw p.1 (adds_lost g.W.Target (lost g.W.Target c.in_err-put.ensures))

pub returns : goal.returns
returns g c = adds_then g.W.Target _ c.in_ok-put.ensures (adds_same g.W.Target _ c.put_path_bytes.ensures (ap shown c.as_bytes.ensures.value))
