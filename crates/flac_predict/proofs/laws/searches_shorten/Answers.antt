use Rattle.flac_predict.proofs.Streams.{searches_shorten}
use Rattle.flac_predict.proofs.laws.searches_shorten.Goals as goal

pub returns : goal.returns
returns c = searches_shorten
