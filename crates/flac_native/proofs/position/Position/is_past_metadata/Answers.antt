use Rattle.std.proofs.Common.{rules}
use Rattle.flac_native.proofs.position.Position.is_past_metadata.Goals as goal

pub returns-in-Blocks : goal.returns-in-Blocks
returns-in-Blocks c = search rules
