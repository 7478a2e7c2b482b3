use Rattle.std.proofs.Common.{rules}
use Rattle.flac_meta.proofs.block.write_block.Goals as goal

pub returns-clause-writes : goal.returns-clause-writes
returns-clause-writes g c = search rules
