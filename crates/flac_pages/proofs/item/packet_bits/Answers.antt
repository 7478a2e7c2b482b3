use Rattle.std.proofs.Common.{rules}
use Rattle.flac_pages.proofs.item.packet_bits.Goals as goal

pub returns-clause-at : goal.returns-clause-at
returns-clause-at g c = search rules
