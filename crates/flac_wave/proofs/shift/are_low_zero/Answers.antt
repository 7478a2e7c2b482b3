use Rattle.std.proofs.Common.{arith}
use Rattle.flac_wave.proofs.Shifts.{zero_found, zero_passed}
use Rattle.flac_wave.proofs.shift.are_low_zero.Goals as goal

pub returns-then-read_uint-shift-ne0 : goal.returns-then-read_uint-shift-ne0
returns-then-read_uint-shift-ne0 c =
    zero_found c.args.wave_width c.args.shift c.read_uint.result c.samples.rest.now c.split_at.result.0.now _ c.requires.wave_width.0 (omega (arith, c.samples-test.true)) c.requires.shift
    c.split_at.ensures.front c.read_uint.ensures (omega (arith, c.if-read_uint-shift-ne0.true)) c.samples.invariant

pub samples-preserved : goal.samples-preserved
samples-preserved c =
    zero_passed c.args.wave_width c.args.shift c.read_uint.result c.samples.rest.now c.split_at.result.1.now c.split_at.result.0.now _ c.requires.wave_width.0 (omega (arith, c.samples-test.true)) c.requires.shift
    c.split_at.ensures.front c.read_uint.ensures (omega (arith, c.if-read_uint-shift-ne0.false)) c.split_at.ensures.back c.samples.invariant
