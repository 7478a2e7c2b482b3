use Rattle.std.proofs.Common.{◌≡◌, ◌++◌, map, take, drop}
use Rattle.flac_cli.specs.Waves.{turned}
use Rattle.flac_cli.proofs.decode_wave.turn.Given as goal

abbrev pub invariant-loop-i : goal.invariant-loop-i
invariant-loop-i l = l.bytes ≡ map turned (take l.i l.fn.bytes) ++ drop l.i l.fn.bytes
