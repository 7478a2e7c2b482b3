use Rattle.flac_ogg.proofs.Outside.{nothing_is_outside_ogg}
use Rattle.flac_ogg.proofs.laws.nothing_is_outside_lax.Goals as goal

pub returns : goal.returns
returns c = nothing_is_outside_ogg
