use Rattle.std.proofs.Common.{rules}
use Rattle.flac_native.proofs.position.Position.place.Goals as goal

pub returns-in-Blocks : goal.returns-in-Blocks
returns-in-Blocks c = search rules
