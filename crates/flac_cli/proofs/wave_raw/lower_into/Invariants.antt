use Rattle.std.proofs.Common.{◌≡◌, ◌*◌, take, length}
use Rattle.flac_wave.specs.Shift.{lowered}
use Rattle.flac_cli.proofs.wave_raw.lower_into.Given as goal

abbrev pub invariant-loop-i : goal.invariant-loop-i
invariant-loop-i l = record {
  done : take (l.i * l.form.width) l.out ≡ lowered l.form.wide l.form.width l.form.shift l.i l.samples;
  long : length l.out ≡ length l.fn.out;
}
