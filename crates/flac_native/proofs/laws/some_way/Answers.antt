use Rattle.flac_native.proofs.Deciding.{some_answer}
use Rattle.flac_native.proofs.laws.some_way.Goals as goal

pub returns : goal.returns
returns c = some_answer
