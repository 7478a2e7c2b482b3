use Rattle.std.proofs.Common.{◌+◌, ◌*◌, ◌≡◌, ◌-◌, ◌^◌, flat_map, refl}
use Rattle.std.proofs.lemmas.Result.{err_from_is_err_and}
use Rattle.flac_bits.specs.Bits.{unsigned}
use Rattle.flac_bits.specs.Rice.{value_bits}
use Rattle.flac_bits.specs.Signed.{signed}
use Rattle.flac_bits.proofs.Writing.{writes_then, fails_first}
use Rattle.flac_subframe.specs.format.Cost.{parameter_bits_of}
use Rattle.flac_subframe.proofs.lemmas.format.WriteSteps.{rice_text, escape_text}
use Rattle.flac_subframe.proofs.format.writing.write_partition.Goals as goal

pub returns-in_ok-put-in-Rice : goal.returns-in_ok-put-in-Rice
returns-in_ok-put-in-Rice g c =
    let k = c.in-Rice.parameter in
    rw (c.in-Rice.is, rice_text (parameter_bits_of c.args.method) k c.args.values.now)
    (writes_then (flat_map (value_bits k) c.args.values.now) c.put_rice_partition.new.self c.put_rice_partition.result (rw c.parameter_bits.ensures.bits at c.in_ok-put-in-Rice.ensures) c.put_rice_partition.ensures)

pub returns-in_err-put-in-Rice : goal.returns-in_err-put-in-Rice
returns-in_err-put-in-Rice g c =
    let k = c.in-Rice.parameter in
    let p = err_from_is_err_and c.from_residual.result c.from_residual.ensures.1 in
    rw (p.1, p.2, c.in-Rice.is, rice_text (parameter_bits_of c.args.method) k c.args.values.now)
    (fails_first (unsigned (parameter_bits_of c.args.method) k) (flat_map (value_bits k) c.args.values.now) (rw c.parameter_bits.ensures.bits at c.in_err-put-in-Rice.ensures))

pub returns-in_ok-put-in-Escape : goal.returns-in_ok-put-in-Escape
returns-in_ok-put-in-Escape g c =
    let n = c.in-Escape.width in
    let may = rw c.in-Escape.is at c.requires.may in
    let field = c.from.result * 32 + n in
    let is : field ≡ (2 ^ (parameter_bits_of c.args.method) - 1) * 32 + n = rw (c.from.ensures, c.escape.ensures) refl in
    rw (c.in-Escape.is, escape_text (parameter_bits_of c.args.method) n field c.args.values.now may.0 is)
    (writes_then (flat_map (signed n) c.args.values.now) c.write_signed.new.writer c.write_signed.result (rw c.parameter_bits-in-Escape.ensures.bits at c.in_ok-put-in-Escape.ensures) c.write_signed.ensures)

pub returns-in_err-put-in-Escape : goal.returns-in_err-put-in-Escape
returns-in_err-put-in-Escape g c =
    let n = c.in-Escape.width in
    let may = rw c.in-Escape.is at c.requires.may in
    let field = c.from.result * 32 + n in
    let is : field ≡ (2 ^ (parameter_bits_of c.args.method) - 1) * 32 + n = rw (c.from.ensures, c.escape.ensures) refl in
    let p = err_from_is_err_and c.from_residual-in_err-put-in-Escape.result c.from_residual-in_err-put-in-Escape.ensures.1 in
    rw (p.1, p.2, c.in-Escape.is, escape_text (parameter_bits_of c.args.method) n field c.args.values.now may.0 is)
    (fails_first (unsigned ((parameter_bits_of c.args.method) + 5) field) (flat_map (signed n) c.args.values.now) (rw c.parameter_bits-in-Escape.ensures.bits at c.in_err-put-in-Escape.ensures))
