use Rattle.std.proofs.Common.{◌-◌, ◌*◌, arith}
use Rattle.flac_wave.proofs.Shifts.{ones_within}
use Rattle.flac_wave.proofs.shift.lowered_number.Goals as goal

pub overflow_sub-result-2 : goal.overflow_sub-result-2
overflow_sub-result-2 c = ones_within (8 * c.args.wave_width - c.args.shift) (8 * c.args.width) (omega (arith, c.requires.shift.1)) (omega (arith, c.requires.width.1))
