use Rattle.std.proofs.Common.{rules}
use Rattle.flac_pages.proofs.packet_bytes.PacketBytes.why.Goals as goal

pub returns-clause-fault : goal.returns-clause-fault
returns-clause-fault g c = search rules
