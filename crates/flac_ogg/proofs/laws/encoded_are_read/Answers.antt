use Rattle.flac_ogg.proofs.RoundTrips.{encoded_ogg_is_read}
use Rattle.flac_ogg.proofs.laws.encoded_are_read.Goals as goal

pub returns : goal.returns
returns c = encoded_ogg_is_read
