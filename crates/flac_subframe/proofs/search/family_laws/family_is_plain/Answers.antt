use Rattle.flac_subframe.proofs.lemmas.search.Complete.{family_whole}
use Rattle.flac_subframe.proofs.lemmas.search.Family.{family_plain}
use Rattle.flac_subframe.proofs.search.family_laws.family_is_plain.Goals as goal

pub returns : goal.returns
returns c = record { whole = family_whole; plain = family_plain }
