use Rattle.std.proofs.Common.{refl}
use Rattle.flac_frame.proofs.plane_predictors.PlanePredictors.same.Goals as goal

pub returns : goal.returns
returns c = refl
