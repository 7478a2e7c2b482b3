use Rattle.flac_subframe.proofs.lemmas.format.Whole.{samples_restored}
use Rattle.flac_subframe.proofs.format.laws.samples_are_restored.Goals as goal

pub returns : goal.returns
returns c = samples_restored
