-- Pages of packets of which the last is held back, since it is not known yet whether more follow (RFC 3533, section 6).
use Rattle.std.specs.Prelude.{◌≡◌, ℕ, Bool, true, false, List, [], ◌∷◌, ◌++◌}
use Rattle.flac_pages.specs.declared.writing.PacketMarks.{PacketMarks}
use Rattle.flac_pages.specs.Placed.{Placed, marks_of, sequence_after, stream_spelling}
use Rattle.flac_pages.specs.Written.{packet_spelling}

-- the pages of a packet of these marks, apart from whether the packet is the last
abbrev pub pages_marked : PacketMarks → (last : Bool) → List ℕ → List Bool
pages_marked m last packet = packet_spelling (record m { last = last }) packet

-- the pages of packets one after another, from the page of a number on, of which none is marked last
abbrev pub open_from : (serial sequence : ℕ) → (first : Bool) → List Placed → List Bool
open_from serial sequence first [] = []
open_from serial sequence first (p ∷ ps) = packet_spelling (marks_of serial sequence first false p) p.packet ++ open_from serial (sequence_after sequence p.packet) false ps

-- the number of the page after them
abbrev pub number_after : ℕ → List Placed → ℕ
number_after sequence [] = sequence
number_after sequence (p ∷ ps) = number_after (sequence_after sequence p.packet) ps

-- What was written and then the pages that are held are the pages of these packets: `middle` if more packets follow,
-- and `last` if the stream ends. The next page has this number.
pub record ArePages (serial : ℕ) (packets : List Placed) (written middle last : List Bool) (sequence : ℕ) : Type 0 where
  pub middle_is : written ++ middle ≡ open_from serial 0 true packets
  pub last_is : written ++ last ≡ stream_spelling serial packets
  pub next : sequence ≡ number_after 0 packets
