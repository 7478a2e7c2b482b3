use Rattle.flac_pages.proofs.PlacedMore.{packets_placed, bytes_placed}
use Rattle.flac_pages.proofs.laws.packets_are_placed.Goals as goal

pub returns : goal.returns
returns c = record { next = packets_placed; bytes = bytes_placed }
