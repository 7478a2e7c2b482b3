use Rattle.flac_subframe.proofs.lemmas.search.Family.{may_stand}
use Rattle.flac_frame.proofs.laws.forms_stand_for_samples.Goals as goal

pub returns : goal.returns
returns c = may_stand
