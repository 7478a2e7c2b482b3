use Rattle.flac_reader.proofs.EncodedCuts.{frames_are_cut, points_are_cut}
use Rattle.flac_reader.proofs.laws.encoded_are_cut.Goals as goal

pub returns : goal.returns
returns c = record { frames = frames_are_cut; points = points_are_cut }
