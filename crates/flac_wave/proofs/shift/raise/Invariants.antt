use Rattle.std.proofs.Common.{length}
use Rattle.flac_wave.proofs.Shifts.{Raising}
use Rattle.flac_wave.proofs.shift.raise.Given as goal

abbrev pub invariant-samples : goal.invariant-samples
invariant-samples l = Raising l.width l.wave_width l.shift l.samples l.rest l.fn.out l.out l.done

abbrev pub decreases-samples : goal.decreases-samples
decreases-samples l = length l.rest
