use Rattle.std.proofs.Common.{◌+◌, ◌-◌, ◌/◌, length}
use Rattle.std.specs.List.{flat_map, range_with_len}
use Rattle.flac_bits.proofs.Writing.{Towards}
use Rattle.flac_pages.specs.Page.{page_spelling}
use Rattle.flac_pages.specs.Written.{page_at, packet_spelling}
use Rattle.flac_pages.proofs.writing.write_packet.Given as goal

abbrev pub invariant-loop-page : goal.invariant-loop-page
invariant-loop-page g l = Towards (flat_map (λ k. page_spelling (page_at l.marks l.packet k)) (range_with_len l.page (length l.packet / 65025 + 1 - l.page))) (packet_spelling l.marks l.packet) l.initial.writer l.writer
