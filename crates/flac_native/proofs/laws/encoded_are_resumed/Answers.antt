use Rattle.flac_native.proofs.Resumed as resumed
use Rattle.flac_native.proofs.laws.encoded_are_resumed.Goals as goal

pub returns : goal.returns
returns c = resumed.encoded_are_resumed
