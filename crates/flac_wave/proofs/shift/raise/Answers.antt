use Rattle.flac_wave.proofs.Shifts.{raising_within, raising_next, high_fits, some_rest}
use Rattle.flac_wave.proofs.shift.raise.Goals as goal

pub split_at-requires : goal.split_at-requires
split_at-requires c =
    raising_within c.args.width c.args.wave_width c.args.shift c.args.samples.now c.samples.rest.now c.args.out.now c.samples.out c.samples.done c.samples.invariant
    (some_rest c.samples.rest.now _ c.is_empty.ensures c.samples-test.true) c.requires.room

pub write_uint-requires-clause-fits : goal.write_uint-requires-clause-fits
write_uint-requires-clause-fits c = high_fits _ c.args.wave_width c.requires.wave_width.1

pub samples-preserved : goal.samples-preserved
samples-preserved c =
    raising_next c.args.width c.args.wave_width c.args.shift c.args.samples.now c.samples.rest.now c.split_at.result.1.now c.split_at.result.0.now c.args.out.now c.samples.out c.write_uint.new.buf
    c.samples.done c.read_uint-number.result c.samples.invariant (some_rest c.samples.rest.now _ c.is_empty.ensures c.samples-test.true) c.requires.room c.requires.wave_width.1
    c.split_at.ensures.front c.read_uint-number.ensures c.split_at.ensures.back c.write_uint.ensures
