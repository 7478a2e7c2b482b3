use Rattle.std.proofs.Common.{◌+◌, ◌*◌, drop, get_or}
use Rattle.std.proofs.lemmas.Result.{err_from_is_err_and}
use Rattle.flac_bits.specs.Bits.{unsigned, bits_of}
use Rattle.flac_bits.proofs.Codes.{byte_step, eight_step}
use Rattle.flac_bits.proofs.Writing.{towards_more, towards_fail}
use Rattle.flac_bits.proofs.writer.BitWriter.put_bytes.Goals as goal

pub returns-in_err-put : goal.returns-in_err-put
returns-in_err-put g c =
    let p = err_from_is_err_and c.from_residual.result c.from_residual.ensures.1 in
    let v = c.eight_bytes.result in
    rw (p.1, p.2) (towards_fail (unsigned 64 v) (bits_of (drop (8 * (c.loop-i.i + 1)) c.args.bytes.now)) (eight_step c.args.bytes.now c.loop-i.i v c.eight_bytes.ensures) c.loop-i.invariant c.in_err-put.ensures)

pub loop-i-preserved : goal.loop-i-preserved
loop-i-preserved g c = towards_more (bits_of (drop (8 * (c.loop-i.i + 1)) c.args.bytes.now)) (eight_step c.args.bytes.now c.loop-i.i c.eight_bytes.result c.eight_bytes.ensures) c.loop-i.invariant c.in_ok-put.ensures

pub returns-in_err-put-2 : goal.returns-in_err-put-2
returns-in_err-put-2 g c =
    let p = err_from_is_err_and c.from_residual-in_err-put-2.result c.from_residual-in_err-put-2.ensures.1 in
    rw (p.1, p.2) (towards_fail (unsigned 8 (get_or c.args.bytes.now c.loop-i-2.i 0)) (bits_of (drop (c.loop-i-2.i + 1) c.args.bytes.now)) (byte_step c.args.bytes.now c.loop-i-2.i c.loop-i-2-test.true) c.loop-i-2.invariant c.in_err-put-2.ensures)

pub loop-i-2-preserved : goal.loop-i-2-preserved
loop-i-2-preserved g c = towards_more (bits_of (drop (c.loop-i-2.i + 1) c.args.bytes.now)) (byte_step c.args.bytes.now c.loop-i-2.i c.loop-i-2-test.true) c.loop-i-2.invariant c.in_ok-put-2.ensures
