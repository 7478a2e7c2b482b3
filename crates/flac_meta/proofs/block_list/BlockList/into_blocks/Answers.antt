use Rattle.std.proofs.Common.{rules}
use Rattle.flac_meta.proofs.block_list.BlockList.into_blocks.Goals as goal

pub returns : goal.returns
returns c = search rules
