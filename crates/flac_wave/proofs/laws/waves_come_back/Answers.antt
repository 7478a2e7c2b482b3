use Rattle.flac_wave.proofs.Files.{comes_back}
use Rattle.flac_wave.proofs.laws.waves_come_back.Goals as goal

pub returns : goal.returns
returns c = λ to_end bytes w ps. comes_back bytes w ps
