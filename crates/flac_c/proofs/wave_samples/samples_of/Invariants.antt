use Rattle.std.proofs.Common.{◌≡◌}
use Rattle.flac_c.specs.Waves.{wave_samples}
use Rattle.flac_c.proofs.wave_samples.samples_of.Given as goal

abbrev pub invariant-loop-i : goal.invariant-loop-i
invariant-loop-i l = l.bytes.items ≡ wave_samples l.width l.bits l.numbers l.i
