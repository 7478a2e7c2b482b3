use Rattle.std.proofs.Common.{◌≡◌, ◌++◌, take, drop}
use Rattle.flac_cli.specs.inner.HeldWaves.{shifted}
use Rattle.flac_cli.proofs.wave_samples.lower_samples.Given as goal

abbrev pub invariant-loop-i : goal.invariant-loop-i
invariant-loop-i l = l.samples ≡ shifted l.shift (take l.i l.fn.samples) ++ drop l.i l.fn.samples
