use Rattle.flac_pages.proofs.PacketList.{packet_list}
use Rattle.flac_pages.proofs.laws.packet_list_is_given.Goals as goal

pub returns : goal.returns
returns c = packet_list
