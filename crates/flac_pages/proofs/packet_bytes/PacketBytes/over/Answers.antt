use Rattle.std.proofs.Common.{rules}
use Rattle.flac_pages.proofs.packet_bytes.PacketBytes.over.Goals as goal

pub invariant_of-result : goal.invariant_of-result
invariant_of-result g c = search rules
