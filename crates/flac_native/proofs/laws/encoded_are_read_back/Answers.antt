use Rattle.flac_native.proofs.ReadBack as back
use Rattle.flac_native.proofs.laws.encoded_are_read_back.Goals as goal

pub returns : goal.returns
returns c = back.encoded_are_read_back
