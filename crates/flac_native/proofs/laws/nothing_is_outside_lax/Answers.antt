use Rattle.flac_native.proofs.Outside.{nothing_is_outside}
use Rattle.flac_native.proofs.laws.nothing_is_outside_lax.Goals as goal

pub returns : goal.returns
returns c = nothing_is_outside
