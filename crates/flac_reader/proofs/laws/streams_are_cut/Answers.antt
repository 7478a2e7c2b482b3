use Rattle.flac_reader.proofs.Cuts.{cut_read}
use Rattle.flac_reader.proofs.Starts.{frames_start_there}
use Rattle.flac_reader.proofs.laws.streams_are_cut.Goals as goal

pub returns : goal.returns
returns c = record { start = frames_start_there; read = cut_read }
