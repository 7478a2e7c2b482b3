use Rattle.std.proofs.Common.{◌≡◌}
use Rattle.flac_c.specs.Waves.{wave_numbers}
use Rattle.flac_c.proofs.wave_samples.numbers_of.Given as goal

abbrev pub invariant-loop-i : goal.invariant-loop-i
invariant-loop-i l = l.numbers.items ≡ wave_numbers l.width l.bits l.bytes l.i
