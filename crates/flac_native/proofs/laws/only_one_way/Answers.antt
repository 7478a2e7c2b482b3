use Rattle.flac_native.proofs.Deciding.{one_answer}
use Rattle.flac_native.proofs.laws.only_one_way.Goals as goal

pub returns : goal.returns
returns c = one_answer
