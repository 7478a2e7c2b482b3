use Rattle.std.proofs.Common.{◌-◌, ◌*◌, arith}
use Rattle.flac_wave.proofs.Shifts.{ones_within}
use Rattle.flac_cli.proofs.wave_raw.lowered_number.Goals as goal

pub overflow_sub-result-2 : goal.overflow_sub-result-2
overflow_sub-result-2 c =
    let r = c.requires in
    let room = r.room in
    let few = r.few in
    let within = r.within in
    ones_within (8 * c.args.form.wide - c.args.form.shift) (8 * c.args.form.width) (omega (arith, room)) (omega (arith, few, within))
