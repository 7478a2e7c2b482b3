use Rattle.flac_native.proofs.Streams as streams
use Rattle.flac_native.proofs.laws.encoded_are_streams.Goals as goal

pub returns : goal.returns
returns c = streams.encoded_are_streams
