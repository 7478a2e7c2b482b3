use Rattle.std.proofs.Common.{rules}
use Rattle.flac_meta.proofs.block_list.BlockList.blocks.Goals as goal

pub returns-clause-items : goal.returns-clause-items
returns-clause-items c = search rules
