use Rattle.std.proofs.Common.{rules}
use Rattle.flac_meta.proofs.block.Seen.new.Goals as goal

pub returns : goal.returns
returns c = search rules
