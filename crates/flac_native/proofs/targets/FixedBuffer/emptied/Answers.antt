use Rattle.std.proofs.Common.{rules}
use Rattle.flac_native.proofs.targets.FixedBuffer.emptied.Goals as goal

pub returns-clause-none : goal.returns-clause-none
returns-clause-none c = search rules
