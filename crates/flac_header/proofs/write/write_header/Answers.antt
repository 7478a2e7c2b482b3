use Rattle.std.proofs.lemmas.Result.{err_from_is_err_and}
use Rattle.flac_header.proofs.Writes.{started_fails, fields_fail, written}
use Rattle.flac_header.proofs.write.write_header.Goals as goal

pub returns-in_err-start_checks : goal.returns-in_err-start_checks
returns-in_err-start_checks g c =
    let p = err_from_is_err_and c.from_residual.result c.from_residual.ensures.1 in
    rw (p.1, p.2) (started_fails c.args.header.now c.in_err-start_checks.ensures)

pub returns-in_err-put_fields : goal.returns-in_err-put_fields
returns-in_err-put_fields g c =
    let p = err_from_is_err_and c.from_residual-in_err-put_fields.result c.from_residual-in_err-put_fields.ensures.1 in
    rw (p.1, p.2) (fields_fail c.args.header.now c.in_ok-start_checks.ensures c.in_err-put_fields.ensures)

pub returns : goal.returns
returns g c = written c.args.header.now c.check8-check.result c.args.writer.now c.start_checks.new.self c.put_fields.new.writer c.put.new.self c.put.result c.requires c.in_ok-start_checks.ensures c.in_ok-put_fields.ensures c.check8-check.ensures c.put.ensures
