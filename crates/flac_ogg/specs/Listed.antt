-- The bits and the kinds of packets.
use Rattle.std.specs.Prelude.{Bool, List, map}
use Rattle.flac_bits.specs.Bits.{bits_of}
use Rattle.flac_pages.specs.declared.writing.PacketKind.{PacketKind}
use Rattle.flac_pages.specs.Placed.{Placed}

-- the bits of each packet, and its kind
abbrev pub texts_of : List Placed → List (List Bool)
texts_of packets = map bits_of (map (λ q. q.packet) packets)

abbrev pub kinds_in : List Placed → List PacketKind
kinds_in packets = map (λ q. q.kind) packets
