use Rattle.flac_native.proofs.OneHead.{heads_are_one}
use Rattle.flac_native.proofs.laws.only_one_head.Goals as goal

pub returns : goal.returns
returns c = heads_are_one
