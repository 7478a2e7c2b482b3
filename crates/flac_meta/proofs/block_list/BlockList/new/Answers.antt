use Rattle.std.proofs.Common.{rules}
use Rattle.flac_meta.proofs.block_list.BlockList.new.Goals as goal

pub invariant_of-result : goal.invariant_of-result
invariant_of-result c = search rules

pub returns-in-None-clause-good : goal.returns-in-None-clause-good
returns-in-None-clause-good c = search rules
