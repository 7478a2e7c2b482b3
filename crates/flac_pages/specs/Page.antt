-- A page of an Ogg stream (RFC 3533, section 6).
use Rattle.std.specs.Prelude.{◌≡◌, ◌≤◌, ℕ, ◌+◌, ◌/◌, ◌%◌, ◌^◌, Bool, false, not, ◌||◌, cond, List, [], ◌∷◌, length, Option, Some, None, nat_eq}
use Rattle.std.specs.Int.{to_le_bytes, w32, w64}
use Rattle.std.specs.List.{sum}
use Rattle.flac_bits.specs.Bits.{bits_of}
use Rattle.flac_bits.specs.Check.{remainder}
use Rattle.flac_bits.specs.Forms.{joined}
use Rattle.flac_bits.specs.Layout.{Layout, done, judge, ◌>>=◌, bits, Rule}
use Rattle.flac_bits.specs.Lists.{list_of}
use Rattle.flac_bits.specs.LittleEndian.{little_32, little_64}
use Rattle.flac_bits.specs.declared.why.Why.TheVariants.{BadPage, PageCheck, PageOrder, OtherStream, BadMapping}
use Rattle.flac_pages.specs.declared.page.Head.{Head}
use Rattle.flac_pages.specs.declared.page.Before.{Before}

-- the fixed fields, the lacing values (how long each segment is), and the bytes of all segments
pub record Page : Type 0 where
  pub head : Head
  pub lacing : List ℕ
  pub body : List ℕ

-- the page of these fixed fields, lacing values and bytes
abbrev pub page_of : Head → (lacing body : List ℕ) → Page
page_of head lacing body = record { head = head; lacing = lacing; body = body }

-- the bytes are those of the segments, of which there are at most 255
abbrev pub IsWholePage : Page → Type 0
IsWholePage p = (length p.body ≡ sum p.lacing) × (length p.body ≤ 65025) × (length p.lacing ≤ 255)

-- ---- the header's flags (section 6, field 3)

-- the page begins with bytes of a packet that goes on
abbrev pub is_continued : ℕ → Bool
is_continued flags = nat_eq (flags % 2) 1

-- the first page of the stream
abbrev pub is_first : ℕ → Bool
is_first flags = nat_eq (flags / 2 % 2) 1

-- the last page of the stream
abbrev pub is_last : ℕ → Bool
is_last flags = nat_eq (flags / 4 % 2) 1

-- ---- the state after the pages before

-- a packet goes on after these lacing values, of which each below 255 ends one
abbrev pub goes_on_after : Bool → List ℕ → Bool
goes_on_after going [] = going
goes_on_after going (v ∷ vs) = goes_on_after (nat_eq v 255) vs

abbrev pub went_on : Option Before → Bool
went_on None = false
went_on (Some b) = b.goes_on

abbrev pub after_page : Option Before → Page → Before
after_page before p = record { serial = p.head.serial; sequence = p.head.sequence; goes_on = goes_on_after (went_on before) p.lacing }

-- ---- the checksum

-- the bits of a page: the pattern OggS, version 0, and the fields in their order, the lowest byte of a number first
unfoldable pub page_spelling : Page → List Bool
page_spelling p = joined (
    bits_of (0x4F ∷ 0x67 ∷ 0x67 ∷ 0x53 ∷ 0 ∷ p.head.flags ∷ []) ∷ bits_of (to_le_bytes w64 p.head.granule) ∷ bits_of (to_le_bytes w32 p.head.serial) ∷
    bits_of (to_le_bytes w32 p.head.sequence) ∷ bits_of (to_le_bytes w32 p.head.sum) ∷ bits_of (length p.lacing ∷ []) ∷ bits_of p.lacing ∷ bits_of p.body ∷ [])

abbrev pub with_sum : ℕ → Page → Page
with_sum sum p = record p { head = record p.head { sum = sum } }

-- the checksum that a whole page has: the remainder over all of the page, whose checksum counts as 0 (field 7)
unfoldable pub page_sum : Page → ℕ
page_sum p = remainder 32 79764919 (page_spelling (with_sum 0 p))

-- ---- the rules at a page's end, in the order of their rank

abbrev pub is_other : Option Before → ℕ → Bool
is_other None serial = false
is_other (Some b) serial = not (nat_eq serial b.serial)

-- a mark or a number that breaks the order of pages
abbrev pub is_disordered : Option Before → Head → Bool
is_disordered None h = is_continued h.flags
is_disordered (Some b) h = is_first h.flags || (not (nat_eq h.sequence ((b.sequence + 1) % 2 ^ 32)) || cond b.goes_on (not (is_continued h.flags)) (is_continued h.flags))

-- a first page that is not marked so, or whose one packet has not the 51 bytes of FLAC's first one (RFC 9639,
-- section 10.1)
abbrev pub is_wrong_start : Option Before → Page → Bool
is_wrong_start None p = not (is_first p.head.flags) || (not (nat_eq (length p.lacing) 1) || not (nat_eq (sum p.lacing) 51))
is_wrong_start (Some b) p = false

unfoldable pub end_rules : Option Before → Page → List Rule
end_rules before p =
    record { broken = not (nat_eq p.head.sum (page_sum p)); why = PageCheck } ∷
    record { broken = is_other before p.head.serial; why = OtherStream } ∷
    record { broken = is_disordered before p.head; why = PageOrder } ∷
    record { broken = is_wrong_start before p; why = BadMapping } ∷ []

-- ---- the layout

-- the fields after the page's first byte and before the number of lacing values
unfoldable pub head_after : ℕ → Layout Head
head_after first = do
  pattern ← bits 24
  _ ← judge (record { broken = not (nat_eq first 0x4F) || not (nat_eq pattern 0x676753); why = BadPage } ∷ [])
  version ← bits 8
  _ ← judge (record { broken = not (nat_eq version 0); why = BadPage } ∷ [])
  flags ← bits 8
  granule ← little_64
  serial ← little_32
  sequence ← little_32
  sum ← little_32
  done (record { flags = flags; granule = granule; serial = serial; sequence = sequence; sum = sum })

-- a page after its first byte
unfoldable pub page_after : Option Before → ℕ → Layout Page
page_after before first = do
  head ← head_after first
  count ← bits 8
  lacing ← list_of count (bits 8)
  body ← list_of (sum lacing) (bits 8)
  let page : Page = record { head = head; lacing = lacing; body = body }
  _ ← judge (end_rules before page)
  done page

-- a page after those before it
unfoldable pub page : Option Before → Layout Page
page before = do
  first ← bits 8
  page_after before first
