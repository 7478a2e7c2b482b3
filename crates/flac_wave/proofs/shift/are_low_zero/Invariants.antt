use Rattle.std.proofs.Common.{◌≡◌, ◌/◌, length}
use Rattle.flac_wave.specs.Shift.{are_low_zero}
use Rattle.flac_wave.proofs.shift.are_low_zero.Given as goal

abbrev pub invariant-samples : goal.invariant-samples
invariant-samples l = are_low_zero l.wave_width l.shift (length l.rest / l.wave_width) l.rest ≡ are_low_zero l.wave_width l.shift (length l.samples / l.wave_width) l.samples

abbrev pub decreases-samples : goal.decreases-samples
decreases-samples l = length l.rest
