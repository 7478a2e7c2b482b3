use Rattle.std.proofs.Common.{rules}
use Rattle.flac_native.proofs.plan.Plan.seek_every.Goals as goal

pub returns : goal.returns
returns c = search rules
