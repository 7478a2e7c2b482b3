use Rattle.std.proofs.Common.{ap, sym}
use Rattle.std.proofs.lemmas.Result.{err_from_is_err_and}
use Rattle.flac_cli.specs.Lined.{text_at}
use Rattle.flac_cli.proofs.Lined.{adds_then, adds_same, lost, adds_lost}
use Rattle.flac_cli.proofs.lines.Lines.put_reason.Goals as goal

pub returns-in-Whole : goal.returns-in-Whole
returns-in-Whole g c = adds_same g.W.Target _ c.put.ensures (ap (λ at. text_at at c.args.text.now) (sym c.in-Whole.is))

pub returns-in_err-put_place-in-Place : goal.returns-in_err-put_place-in-Place
returns-in_err-put_place-in-Place g c =
    let p = err_from_is_err_and c.from_residual.result c.from_residual.ensures.1 in
    rw p.1 (adds_lost g.W.Target (lost g.W.Target c.in_err-put_place-in-Place.ensures))

pub returns-in_ok-put_place-in-Place : goal.returns-in_ok-put_place-in-Place
returns-in_ok-put_place-in-Place g c = adds_same g.W.Target _ (adds_then g.W.Target _ c.in_ok-put_place-in-Place.ensures c.put_both.ensures) (ap (λ at. text_at at c.args.text.now) (sym c.in-Place.is))

pub returns-in_err-put_counted-in-Line : goal.returns-in_err-put_counted-in-Line
returns-in_err-put_counted-in-Line g c =
    let p = err_from_is_err_and c.from_residual-in_err-put_counted-in-Line.result c.from_residual-in_err-put_counted-in-Line.ensures.1 in
    rw p.1 (adds_lost g.W.Target (lost g.W.Target c.in_err-put_counted-in-Line.ensures))

pub returns-in_ok-put_counted-in-Line : goal.returns-in_ok-put_counted-in-Line
returns-in_ok-put_counted-in-Line g c = adds_same g.W.Target _ (adds_then g.W.Target _ c.in_ok-put_counted-in-Line.ensures c.put_both-in-Line.ensures) (ap (λ at. text_at at c.args.text.now) (sym c.in-Line.is))

pub returns-in_err-put_counted-in-Chunk : goal.returns-in_err-put_counted-in-Chunk
returns-in_err-put_counted-in-Chunk g c =
    let p = err_from_is_err_and c.from_residual-in_err-put_counted-in-Chunk.result c.from_residual-in_err-put_counted-in-Chunk.ensures.1 in
    rw p.1 (adds_lost g.W.Target (lost g.W.Target c.in_err-put_counted-in-Chunk.ensures))

pub returns-in_ok-put_counted-in-Chunk : goal.returns-in_ok-put_counted-in-Chunk
returns-in_ok-put_counted-in-Chunk g c = adds_same g.W.Target _ (adds_then g.W.Target _ c.in_ok-put_counted-in-Chunk.ensures c.put_both-in-Chunk.ensures) (ap (λ at. text_at at c.args.text.now) (sym c.in-Chunk.is))
