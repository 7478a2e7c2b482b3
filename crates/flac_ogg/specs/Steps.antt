-- What a reader of an Ogg stream does with one packet, as a function of what good pages still have.
use Rattle.std.specs.Prelude.{◌≡◌, ℕ, true, cond, List, [], ◌∷◌, Option, Some, None, Result, Ok, Err}
use Rattle.flac_bits.specs.Bits.{bits_of}
use Rattle.flac_bits.specs.State.{After}
use Rattle.flac_bits.specs.Layout.{Rule}
use Rattle.flac_bits.specs.declared.why.Why.{Why}
use Rattle.flac_bits.specs.declared.why.Why.TheVariants.{PacketLength}
use Rattle.flac_native.specs.Stream.{Piece, Stand, Progress, grammar, next, room_in}
use Rattle.flac_native.specs.declared.fault.Place.{Place}
use Rattle.flac_native.specs.declared.fault.Place.TheVariants as place
use Rattle.flac_pages.specs.Packets.{Ahead, rest_in, after_in}
use Rattle.flac_pages.specs.Items.{Packet, end_of, item_in}
use Rattle.flac_ogg.specs.Mapping.{packet_layout, packet_place, page_place}
use Rattle.flac_ogg.specs.Stream.{packet_start, last_fault}

-- a packet is an item, and good pages still have this after it; or the stream is over, or refused
pub data PacketStep : Type 0 where
  item : Piece → Ahead → PacketStep
  over : PacketStep
  refused : Place → Why → PacketStep

-- after a whole packet
abbrev pub ahead_after : After → Ahead
ahead_after b = record { lacing = b.pieces; bytes = b.bytes; fault = b.fault; stop = b.stop }

-- the next packet, of which good pages have a lacing value
abbrev pub next_packet : Ahead → Packet
next_packet a = record { bits = bits_of (rest_in 0 true a); ends = end_of (after_in 0 true a) }

abbrev pub step_of_item : Stand → After → Result Piece (Option ℕ × Why) → PacketStep
step_of_item s b (Ok x) = item x (ahead_after b)
step_of_item s b (Err why) = refused (packet_place s why) why.1

-- if the stream may end
abbrev pub judged : List Rule → PacketStep
judged [] = over
judged (rule ∷ rules) = cond rule.broken (refused place.End rule.why) (judged rules)

-- if no packet is left
abbrev pub without_packet : Progress → Option (ℕ × Why) → PacketStep
without_packet p (Some f) = refused (page_place f.0 f.1) f.1
without_packet p None = cond (grammar.may_end p) (judged (grammar.at_end p)) (refused (grammar.place p) PacketLength)

abbrev pub step_in : Progress → Ahead → List ℕ → PacketStep
step_in p a [] = without_packet p (last_fault p a.fault a.stop)
step_in p a (v ∷ vs) = step_of_item p.stand (after_in 0 true a) (item_in (room_in p.stand.phase) (packet_layout p.stand) (packet_start (after_in 0 true a).fails) (next_packet a))

unfoldable pub packet_step : Progress → Ahead → PacketStep
packet_step p a = step_in p a a.lacing

-- these items are read one after another
abbrev pub Goes : Progress → Ahead → List Piece → Progress → Ahead → Type 0
Goes p a [] q b = (p ≡ q) × (a ≡ b)
Goes p a (x ∷ xs) q b = (c : Ahead) × (packet_step p a ≡ item x c) × Goes (next p x) c xs q b
