use Rattle.flac_native.proofs.LaxProfile as lax
use Rattle.flac_native.proofs.laws.subset_is_lax.Goals as goal

pub returns : goal.returns
returns c = lax.subset_is_lax
