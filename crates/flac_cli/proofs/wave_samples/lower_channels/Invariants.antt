use Rattle.std.proofs.Common.{◌≡◌, ◌++◌, map, take, drop}
use Rattle.flac_cli.specs.inner.HeldWaves.{shifted}
use Rattle.flac_cli.proofs.wave_samples.lower_channels.Given as goal

abbrev pub invariant-loop-i : goal.invariant-loop-i
invariant-loop-i l = map (λ c. c.items) l.channels ≡ map (shifted l.shift) (take l.i (map (λ c. c.items) l.fn.channels)) ++ drop l.i (map (λ c. c.items) l.fn.channels)
