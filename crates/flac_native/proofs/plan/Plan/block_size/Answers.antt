use Rattle.std.proofs.Common.{rules}
use Rattle.flac_native.proofs.plan.Plan.block_size.Goals as goal

pub returns-clause-value : goal.returns-clause-value
returns-clause-value c = search rules
