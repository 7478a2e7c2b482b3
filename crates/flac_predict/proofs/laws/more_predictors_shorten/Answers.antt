use Rattle.flac_predict.proofs.Longer.{more_shorten}
use Rattle.flac_predict.proofs.laws.more_predictors_shorten.Goals as goal

pub returns : goal.returns
returns c = more_shorten
