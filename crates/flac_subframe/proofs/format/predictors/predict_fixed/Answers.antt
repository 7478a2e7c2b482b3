use Rattle.std.proofs.Common.{rules}
use Rattle.flac_subframe.proofs.format.predictors.predict_fixed.Goals as goal

pub returns-clause-value : goal.returns-clause-value
returns-clause-value c = search rules
