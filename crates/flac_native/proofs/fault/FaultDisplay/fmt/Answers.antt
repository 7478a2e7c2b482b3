use Rattle.std.proofs.Common.{rules}
use Rattle.flac_native.proofs.fault.FaultDisplay.fmt.Goals as goal

pub returns-clause-writes : goal.returns-clause-writes
returns-clause-writes g c = search rules
