-- Packets written one after another in the pages of one stream (RFC 3533, sections 5 and 6).
use Rattle.std.specs.Bool.{⊤}
use Rattle.std.specs.Prelude.{◌≡◌, ℕ, ◌+◌, ◌-◌, ◌/◌, ◌%◌, ◌^◌, ◌<◌, ◌≤◌, Bool, true, false, List, [], ◌∷◌, ◌++◌, length, take, drop, map, None}
use Rattle.std.specs.List.{All, flat_map}
use Rattle.flac_bits.specs.Bits.{is_nil}
use Rattle.flac_bits.specs.Forms.{AreBytes}
use Rattle.flac_bits.specs.State.{Mark, past}
use Rattle.flac_pages.specs.declared.writing.PacketAt.{PacketAt}
use Rattle.flac_pages.specs.declared.writing.PacketKind.{PacketKind}
use Rattle.flac_pages.specs.declared.writing.PacketMarks.{PacketMarks}
use Rattle.flac_pages.specs.Page.{Page, page_spelling}
use Rattle.flac_pages.specs.Pages.{GoodPages, closed, pages_of}
use Rattle.flac_pages.specs.Packets.{Packets}
use Rattle.flac_pages.specs.Written.{granule_at, pages_of_packet}
use Rattle.flac_pages.specs.Runs.{FinalLast}

-- a packet and its kind
pub record Placed : Type 0 where
  pub packet : List ℕ
  pub kind : PacketKind

abbrev pub marks_of : (serial sequence : ℕ) → (first last : Bool) → Placed → PacketMarks
marks_of serial sequence first last p = record { serial = serial; sequence = sequence; kind = p.kind; first = first; last = last }

-- the number of the page after a packet's pages, of which the first has this number
abbrev pub sequence_after : ℕ → List ℕ → ℕ
sequence_after sequence packet = (sequence + (length packet / 65025 + 1)) % 2 ^ 32

-- the pages of packets one after another, from the page of a number on: the final packet is the stream's last
abbrev pub pages_from : (serial sequence : ℕ) → (first : Bool) → List Placed → List Page
pages_from serial sequence first [] = []
pages_from serial sequence first (p ∷ ps) = pages_of_packet (marks_of serial sequence first (is_nil ps) p) p.packet ++ pages_from serial (sequence_after sequence p.packet) false ps

-- all pages of a stream, whose numbers count from 0
abbrev pub stream_pages : ℕ → List Placed → List Page
stream_pages serial ps = pages_from serial 0 true ps

unfoldable pub stream_spelling : ℕ → List Placed → List Bool
stream_spelling serial ps = flat_map page_spelling (stream_pages serial ps)

-- ---- packets that lie one after another in memory

-- no packet ends before the one before it ends, the first none before `from`, and none ends after the place `most`
abbrev pub AreInOrder : (from most : ℕ) → List PacketAt → Type 0
AreInOrder from most [] = ⊤
AreInOrder from most (p ∷ ps) = (from ≤ p.end) × (p.end ≤ most) × AreInOrder p.end most ps

-- these packets, of which the first begins at `from`
abbrev pub placed_in : List ℕ → (from : ℕ) → List PacketAt → List Placed
placed_in bytes from [] = []
placed_in bytes from (p ∷ ps) = record { packet = take (p.end - from) (drop from bytes); kind = p.kind } ∷ placed_in bytes p.end ps

-- the end of the last of them
abbrev pub end_of : (from : ℕ) → List PacketAt → ℕ
end_of from [] = from
end_of from (p ∷ ps) = end_of p.end ps

-- ---- laws

pub record IsPlaced (p : Placed) : Type 0 where
  pub bytes : AreBytes p.packet
  pub position : granule_at p.kind true < 2 ^ 64

-- the pages are good, the final one alone is marked last, and they have exactly these packets; and they are read again
-- so, whatever follows
pub record HoldsPackets (m : Mark) (pages : List Page) (text : List Bool) (packets : List (List ℕ)) : Type 0 where
  pub good : GoodPages None m pages text
  pub final : FinalLast pages
  pub just : Packets pages packets []
  pub again : (rest : List Bool) → pages_of None (record { left = text ++ rest; mark = m }) ≡ record { pages = pages; stop = closed (record { left = rest; mark = past text m }) }

-- packets written one after another, of which the first has the 51 bytes of FLAC's first one (RFC 9639, section 10.1),
-- are a stream that holds them
abbrev pub WrittenPagesAreGood : Type 0
WrittenPagesAreGood = (serial : ℕ) (p : Placed) (ps : List Placed) (m : Mark) → serial < 2 ^ 32 → length p.packet ≡ 51 → All IsPlaced (p ∷ ps)
    → HoldsPackets m (stream_pages serial (p ∷ ps)) (stream_spelling serial (p ∷ ps)) (map (λ q. q.packet) (p ∷ ps))

-- bytes put after the last packet's end are the next packet
pub record TakesPacket (bytes packet : List ℕ) (kind : PacketKind) (packets : List PacketAt) (p : PacketAt) : Type 0 where
  pub order : AreInOrder 0 (length (bytes ++ packet)) (packets ++ p ∷ [])
  pub ends : end_of 0 (packets ++ p ∷ []) ≡ length (bytes ++ packet)
  pub placed : placed_in (bytes ++ packet) 0 (packets ++ p ∷ []) ≡ placed_in bytes 0 packets ++ record { packet = packet; kind = kind } ∷ []

abbrev pub PacketsArePlaced : Type 0
PacketsArePlaced = (bytes packet : List ℕ) (kind : PacketKind) (packets : List PacketAt) → AreInOrder 0 (length bytes) packets → end_of 0 packets ≡ length bytes
    → TakesPacket bytes packet kind packets (record { end = length (bytes ++ packet); kind = kind })

-- packets that lie in bytes may be written
abbrev pub BytesArePlaced : Type 0
BytesArePlaced = (bytes : List ℕ) (from : ℕ) (packets : List PacketAt) → AreBytes bytes → All (λ p. granule_at p.kind true < 2 ^ 64) packets → All IsPlaced (placed_in bytes from packets)
