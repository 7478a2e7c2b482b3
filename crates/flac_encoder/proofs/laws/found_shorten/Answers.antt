use Rattle.flac_encoder.proofs.Searching.{found_shorten}
use Rattle.flac_encoder.proofs.laws.found_shorten.Goals as goal

pub returns : goal.returns
returns c = found_shorten
