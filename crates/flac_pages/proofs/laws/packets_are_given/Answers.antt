use Rattle.flac_pages.proofs.PacketMeaning.{begun_packet, page_packet}
use Rattle.flac_pages.proofs.laws.packets_are_given.Goals as goal

pub returns : goal.returns
returns c = record { next = begun_packet; of_pages = page_packet }
