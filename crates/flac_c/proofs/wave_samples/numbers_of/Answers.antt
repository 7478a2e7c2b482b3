use Rattle.std.proofs.Common.{◌≡◌, rules, to_z, of_z, w32}
use Rattle.flac_c.proofs.WaveNumbers.{numbers_next}
use Rattle.flac_c.proofs.wave_samples.numbers_of.Goals as goal

pub loop-i-preserved : goal.loop-i-preserved
loop-i-preserved c =
    let same : to_z w32 (of_z w32 c.wave_number.result) ≡ c.wave_number.result = search rules in
    numbers_next c.args.width c.args.bits c.loop-i.i c.args.bytes.now c.loop-i.numbers.items c.push.new.self.items _ c.wave_number.result c.loop-i.invariant c.in_ok-push.ensures.items
    same c.wave_number.ensures
