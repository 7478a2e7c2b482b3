use Rattle.flac_subframe.proofs.lemmas.search.Complete.{family_with_whole}
use Rattle.flac_subframe.proofs.lemmas.search.Family.{family_with_plain}
use Rattle.flac_subframe.proofs.search.family_laws.family_with_is_plain.Goals as goal

pub returns : goal.returns
returns c = record { whole = family_with_whole; plain = family_with_plain }
