use Rattle.std.proofs.Common.{◌+◌, drop}
use Rattle.std.proofs.lemmas.Result.{err_from_is_err_and}
use Rattle.flac_bits.proofs.Writing.{towards_more, towards_end, towards_fail}
use Rattle.flac_meta.specs.Spelling.{each_spelled}
use Rattle.flac_meta.specs.inner.Fielded.{field_spelling}
use Rattle.flac_meta.proofs.Steps.{each_step, each_end}
use Rattle.flac_meta.proofs.put.put_fields.Goals as goal

pub returns-in_err-put : goal.returns-in_err-put
returns-in_err-put g c =
    let p = err_from_is_err_and c.from_residual.result c.from_residual.ensures.1 in
    let xs = c.args.fields.now in
    let i = c.loop-field.field-index in
    rw (p.1, p.2) (towards_fail (field_spelling c.field-item.result) (each_spelled field_spelling (drop (i + 1) xs)) (each_step field_spelling xs i c.field-item.result c.loop-field-test.true c.field-item.is) c.loop-field.invariant c.in_err-put.ensures)

pub loop-field-preserved : goal.loop-field-preserved
loop-field-preserved g c =
    let xs = c.args.fields.now in
    let i = c.loop-field.field-index in
    towards_more (each_spelled field_spelling (drop (i + 1) xs)) (each_step field_spelling xs i c.field-item.result c.loop-field-test.true c.field-item.is) c.loop-field.invariant c.in_ok-put.ensures

pub returns : goal.returns
returns g c = towards_end (each_end field_spelling c.args.fields.now c.loop-field.field-index c.loop-field-test.false) c.loop-field.invariant
