-- Packets written in pages (RFC 3533, sections 5 and 6).
use Rattle.std.specs.Prelude.{◌≡◌, ◌↔◌, ℕ, ◌+◌, ◌*◌, ◌/◌, ◌%◌, ◌-◌, ◌^◌, ◌<◌, Bool, cond, ◌&&◌, List, [], ◌∷◌, ◌++◌, length, take, drop, map, nat_eq, Option, Ok}
use Rattle.std.specs.List.{flat_map, range_with_len, sum}
use Rattle.flac_bits.specs.Forms.{AreBytes}
use Rattle.flac_bits.specs.Layout.{run}
use Rattle.flac_bits.specs.Meaning.{Spells, AllKept}
use Rattle.flac_bits.specs.State.{Mark, past}
use Rattle.flac_pages.specs.declared.page.Before.{Before}
use Rattle.flac_pages.specs.declared.page.Head.{Head}
use Rattle.flac_pages.specs.declared.writing.PacketKind.{PacketKind}
use Rattle.flac_pages.specs.declared.writing.PacketKind.TheVariants.{Header, Frame}
use Rattle.flac_pages.specs.declared.writing.PacketMarks.{PacketMarks}
use Rattle.flac_pages.specs.Page.{Page, page_of, page, page_spelling, page_sum, with_sum, end_rules}
use Rattle.flac_pages.specs.Packets.{Packets, lacing_of}

-- a page with its checksum
abbrev pub summed : Page → Page
summed p = with_sum (page_sum p) p

-- a page of just these bytes of a packet, up to its end
abbrev pub last_page : Head → List ℕ → Page
last_page head bytes = page_of head (lacing_of bytes) bytes

-- The granule position of a packet's page, on which the packet ends or goes on (RFC 9639, section 10.1): 0 on each page
-- of a header packet; on a page of a frame the samples so far if the frame ends there, and all ones if it goes on.
abbrev pub granule_at : PacketKind → (ends : Bool) → ℕ
granule_at Header ends = 0
granule_at (Frame end) ends = cond ends end (2 ^ 64 - 1)

-- The fixed fields of a packet's page k, counted from 0: each page but the first goes on with the packet. Only the
-- first may be the stream's first page, and only the last the stream's last.
abbrev pub head_at : PacketMarks → (last k : ℕ) → Head
head_at m last k = record {
  flags = cond (nat_eq k 0) (cond m.first 2 0) 1 + cond (nat_eq k last && m.last) 4 0;
  granule = granule_at m.kind (nat_eq k last);
  serial = m.serial;
  sequence = (m.sequence + k) % 2 ^ 32;
  sum = 0;
}

-- The packet's page k: each but the last has 255 segments of 255 bytes.
abbrev pub page_at : PacketMarks → List ℕ → ℕ → Page
page_at m packet k = summed (record { head = head_at m (length packet / 65025) k; lacing = take 255 (drop (255 * k) (lacing_of packet)); body = take 65025 (drop (65025 * k) packet) })

abbrev pub pages_of_packet : PacketMarks → List ℕ → List Page
pages_of_packet m packet = map (page_at m packet) (range_with_len 0 (length packet / 65025 + 1))

-- all of them, one after another
unfoldable pub packet_spelling : PacketMarks → List ℕ → List Bool
packet_spelling m packet = flat_map (λ k. page_spelling (page_at m packet k)) (range_with_len 0 (length packet / 65025 + 1))

-- ---- laws

-- a page that may follow the pages before
pub record IsPage (before : Option Before) (p : Page) : Type 0 where
  pub flags : p.head.flags < 2 ^ 8
  pub granule : p.head.granule < 2 ^ 64
  pub serial : p.head.serial < 2 ^ 32
  pub sequence : p.head.sequence < 2 ^ 32
  pub stated : p.head.sum < 2 ^ 32
  pub few : length p.lacing < 2 ^ 8
  pub lacing : AreBytes p.lacing
  pub whole : length p.body ≡ sum p.lacing
  pub body : AreBytes p.body
  pub rules : AllKept (end_rules before p)

-- bits spell exactly these pages, each in one way
abbrev pub PagesAreSpelled : Type 0
PagesAreSpelled = (before : Option Before) (m : Mark) (text : List Bool) (p : Page) → Spells (page before) m text p ↔ (IsPage before p × (text ≡ page_spelling p))

-- what is spelled is read again, whatever follows
abbrev pub PagesAreReadAgain : Type 0
PagesAreReadAgain = (before : Option Before) (m : Mark) (rest : List Bool) (p : Page) → IsPage before p
    → run (page before) (record { left = page_spelling p ++ rest; mark = m }) ≡ Ok (p, record { left = rest; mark = past (page_spelling p) m })

-- the pages of a packet have exactly this packet
abbrev pub PagesHavePackets : Type 0
PagesHavePackets = (m : PacketMarks) (packet : List ℕ) → Packets (pages_of_packet m packet) (packet ∷ []) []
