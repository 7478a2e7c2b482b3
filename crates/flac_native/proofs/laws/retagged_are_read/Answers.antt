use Rattle.flac_native.proofs.NewHead.{retagged_are_read}
use Rattle.flac_native.proofs.laws.retagged_are_read.Goals as goal

pub returns : goal.returns
returns c = retagged_are_read
