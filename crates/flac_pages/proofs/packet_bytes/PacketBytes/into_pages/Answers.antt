use Rattle.std.proofs.Common.{rules}
use Rattle.flac_pages.proofs.packet_bytes.PacketBytes.into_pages.Goals as goal

pub returns-clause-pages : goal.returns-clause-pages
returns-clause-pages g c = search rules
