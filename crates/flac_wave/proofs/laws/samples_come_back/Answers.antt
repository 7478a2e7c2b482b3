use Rattle.flac_wave.proofs.Shifts.{samples_back}
use Rattle.flac_wave.proofs.laws.samples_come_back.Goals as goal

pub returns : goal.returns
returns c = samples_back
