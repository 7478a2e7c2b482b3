use Rattle.std.proofs.Common.{rules}
use Rattle.flac_meta.proofs.block.Block.length.Goals as goal

pub returns-in-StreamInfo : goal.returns-in-StreamInfo
returns-in-StreamInfo c = search rules
