use Rattle.std.proofs.Common.{length}
use Rattle.flac_wave.proofs.Shifts.{Lowering}
use Rattle.flac_wave.proofs.shift.lower.Given as goal

abbrev pub invariant-samples : goal.invariant-samples
invariant-samples l = Lowering l.wave_width l.width l.shift l.samples l.rest l.low.items

abbrev pub decreases-samples : goal.decreases-samples
decreases-samples l = length l.rest
