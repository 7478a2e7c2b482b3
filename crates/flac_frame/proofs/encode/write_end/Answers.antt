use Rattle.std.proofs.Common.{◌≡◌, ap, ◌∙◌}
use Rattle.std.proofs.lemmas.Result.{err_from_is_err_and}
use Rattle.flac_bits.specs.Bits.{unsigned}
use Rattle.flac_bits.specs.State.{Mark, past}
use Rattle.flac_bits.proofs.Writing.{fails_first, writes_then}
use Rattle.flac_frame.proofs.encode.write_end.Goals as goal

pub returns-in_err-align : goal.returns-in_err-align
returns-in_err-align g c =
    let p = err_from_is_err_and c.from_residual.result c.from_residual.ensures.1 in
    let u = c.args.writer.now.mark.unread in
    rw (p.1, p.2) (fails_first (unsigned u 0) (unsigned 16 (past (unsigned u 0) c.args.writer.now.mark).check16) c.in_err-align.ensures)

pub returns : goal.returns
returns g c =
    let is : c.check16-check.result ≡ (past (unsigned c.args.writer.now.mark.unread 0) c.args.writer.now.mark).check16 = c.check16-check.ensures ∙ ap (λ (m : Mark). m.check16) c.in_ok-align.ensures.mark in
    rw (← is) (writes_then (unsigned 16 c.check16-check.result) c.put.new.self c.put.result c.in_ok-align.ensures c.put.ensures)
