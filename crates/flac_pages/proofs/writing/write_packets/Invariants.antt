use Rattle.flac_pages.specs.Placed.{placed_in, stream_spelling}
use Rattle.flac_pages.proofs.PlacedWritten.{StandsAt}
use Rattle.flac_pages.proofs.writing.write_packets.Given as goal

abbrev pub invariant-loop-i : goal.invariant-loop-i
invariant-loop-i g l = StandsAt l.serial l.sequence l.bytes l.from l.i l.packets (stream_spelling l.serial (placed_in l.bytes 0 l.packets)) l.initial.writer l.writer
