use Rattle.std.proofs.Common.{◌+◌, ◌-◌, ◌*◌, ◌/◌, ◌%◌}
use Rattle.std.proofs.lemmas.Result.{err_from_is_err_and}
use Rattle.flac_bits.specs.Bits.{unsigned}
use Rattle.flac_bits.proofs.Writing.{towards_start, towards_more, towards_end, towards_fail}
use Rattle.flac_meta.specs.Spelling.{zero_bits}
use Rattle.flac_meta.proofs.Steps.{zeros_first, zeros_step, zeros_over}
use Rattle.flac_meta.proofs.put.put_zeros.Goals as goal

pub returns-in_err-put : goal.returns-in_err-put
returns-in_err-put g c =
    let p = err_from_is_err_and c.from_residual.result c.from_residual.ensures.1 in
    let n = c.args.count in
    rw (p.1, p.2) (towards_fail (unsigned (n % 64) 0) (zero_bits (64 * (n / 64 - 0))) (zeros_first n) (towards_start (zero_bits n) c.args.writer.now) c.in_err-put.ensures)

pub loop-i-init : goal.loop-i-init
loop-i-init g c =
    let n = c.args.count in
    towards_more (zero_bits (64 * (n / 64 - 0))) (zeros_first n) (towards_start (zero_bits n) c.args.writer.now) c.in_ok-put.ensures

pub loop-i-preserved : goal.loop-i-preserved
loop-i-preserved g c =
    let k = c.args.count / 64 in
    let i = c.loop-i.i in
    towards_more (zero_bits (64 * (k - (i + 1)))) (zeros_step k i c.loop-i-test.true) c.loop-i.invariant c.in_ok-put-2.ensures

pub returns-in_err-put-2 : goal.returns-in_err-put-2
returns-in_err-put-2 g c =
    let p = err_from_is_err_and c.from_residual-in_err-put-2.result c.from_residual-in_err-put-2.ensures.1 in
    let k = c.args.count / 64 in
    let i = c.loop-i.i in
    rw (p.1, p.2) (towards_fail (unsigned 64 0) (zero_bits (64 * (k - (i + 1)))) (zeros_step k i c.loop-i-test.true) c.loop-i.invariant c.in_err-put-2.ensures)

pub returns : goal.returns
returns g c = towards_end (zeros_over (c.args.count / 64) c.loop-i.i c.loop-i-test.false) c.loop-i.invariant
