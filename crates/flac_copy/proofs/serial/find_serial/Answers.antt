use Rattle.flac_copy.proofs.SerialLemmas.{serial_held}
use Rattle.flac_copy.proofs.serial.find_serial.Goals as goal

pub returns-in-Ok : goal.returns-in-Ok
returns-in-Ok g c = serial_held g.R.Source c.args.again.now c.hold.new.self c.serial_in.result c.front.result.now c.in-Ok.ensures.held c.front.ensures c.serial_in.ensures
