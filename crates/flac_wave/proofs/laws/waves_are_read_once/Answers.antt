use Rattle.flac_wave.proofs.Files.{wave_one, wave_once, no_wave_one}
use Rattle.flac_wave.proofs.laws.waves_are_read_once.Goals as goal

pub returns : goal.returns
returns c = record { one = wave_one; once = wave_once; refused = no_wave_one }
