use Rattle.std.proofs.Common.{sym, subst}
use Rattle.flac_wave.proofs.Shifts.{Lowering, lowering_first, lowering_more, some_rest}
use Rattle.flac_wave.proofs.shift.lower.Goals as goal

pub samples-init : goal.samples-init
samples-init c =
    subst (λ l. Lowering c.args.wave_width c.args.width c.args.shift c.args.samples.now c.args.samples.now l) (sym c.in_ok-low.ensures.items)
    (lowering_first c.args.wave_width c.args.width c.args.shift c.args.samples.now c.requires.whole)

pub samples-preserved : goal.samples-preserved
samples-preserved c =
    lowering_more c.args.wave_width c.args.width c.args.shift c.args.samples.now c.samples.rest.now c.split_at.result.1.now c.split_at.result.0.now c.samples.low.items c.extend_from_slice.new.self.items _
    c.read_uint.result c.lowered_number-number.result c.samples.invariant (some_rest c.samples.rest.now _ c.is_empty.ensures c.samples-test.true) c.requires.width.1
    c.split_at.ensures.front c.read_uint.ensures c.lowered_number-number.ensures c.split_at.ensures.back c.to_le_bytes.ensures c.in_ok-extend_from_slice.ensures.items
