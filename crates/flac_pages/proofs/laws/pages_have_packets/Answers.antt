use Rattle.flac_pages.proofs.Cut.{pages_have_packets}
use Rattle.flac_pages.proofs.laws.pages_have_packets.Goals as goal

pub returns : goal.returns
returns c = pages_have_packets
