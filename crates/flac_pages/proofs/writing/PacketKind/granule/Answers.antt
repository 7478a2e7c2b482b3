use Rattle.std.proofs.Common.{rules}
use Rattle.flac_pages.proofs.writing.PacketKind.granule.Goals as goal

pub returns-else-ends : goal.returns-else-ends
returns-else-ends c = search rules
