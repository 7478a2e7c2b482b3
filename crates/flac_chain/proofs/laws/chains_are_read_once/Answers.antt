use Rattle.flac_chain.proofs.ReadOnce.{once}
use Rattle.flac_chain.proofs.laws.chains_are_read_once.Goals as goal

pub returns : goal.returns
returns c = once
