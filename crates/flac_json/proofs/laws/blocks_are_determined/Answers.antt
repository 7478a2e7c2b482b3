use Rattle.flac_json.proofs.Determined.{blocks_determined}
use Rattle.flac_json.proofs.laws.blocks_are_determined.Goals as goal

pub returns : goal.returns
returns c = blocks_determined
