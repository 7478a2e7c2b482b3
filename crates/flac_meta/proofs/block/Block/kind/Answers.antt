use Rattle.std.proofs.Common.{rules}
use Rattle.flac_meta.proofs.block.Block.kind.Goals as goal

pub returns-in-CueSheet : goal.returns-in-CueSheet
returns-in-CueSheet c = search rules
