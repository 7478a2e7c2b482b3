use Rattle.std.proofs.Common.{arith}
use Rattle.std.proofs.lemmas.Grind.{common_steps}
use Rattle.flac_native.proofs.plan.Plan.fits.Goals as goal

pub returns-then-self-channels : goal.returns-then-self-channels
returns-then-self-channels c = grind (arith, common_steps)
