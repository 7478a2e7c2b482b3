-- FLAC in the packets of an Ogg stream (RFC 9639, section 10.1).
use Rattle.std.specs.Prelude.{Bool, false, ◌||◌, not, cond, nat_eq, ℕ, [], ◌∷◌, Option, Some, None, ⊤}
use Rattle.flac_bits.specs.Layout.{Layout, bits, judge, ◌>>=◌}
use Rattle.flac_bits.specs.declared.why.Why.{Why}
use Rattle.flac_bits.specs.declared.why.Why.TheVariants.{BadMapping, NoEndPage}
use Rattle.flac_native.specs.Stream.{Piece, Stand, layout as part_layout, place_in}
use Rattle.flac_native.specs.declared.fault.Place.{Place}
use Rattle.flac_native.specs.declared.fault.Place.TheVariants as place
use Rattle.flac_native.specs.declared.track.Phase.{Phase}
use Rattle.flac_native.specs.declared.track.Phase.TheVariants.{Opening, Blocks, Frames}

-- In the first packet, before STREAMINFO: the byte 7F and FLAC, version 1.0, how many header packets follow, which is
-- not checked, and the marker fLaC. All but the count are checked together.
unfoldable pub mapping : Layout ⊤
mapping = do
  name ← bits 40
  version ← bits 16
  count ← bits 16
  marker ← bits 32
  judge (record { broken = not (nat_eq name 0x7F464C4143) || (not (nat_eq version 0x0100) || not (nat_eq marker 0x664C6143)); why = BadMapping } ∷ [])

-- the first block comes next
abbrev pub is_first_block : Phase → ℕ → Bool
is_first_block Opening index = false
is_first_block Blocks index = nat_eq index 0
is_first_block Frames index = false

-- each packet is one block, up to the one marked last, and then one frame; before the first block is the mapping
unfoldable pub packet_layout : Stand → Layout Piece
packet_layout s = cond (is_first_block s.phase s.index) (mapping >>= λ _. part_layout s) (part_layout s)

-- ---- places

-- this page, counted from 0; but a wrong start is reported at the marker, and a missing last page at the end
abbrev pub page_place : ℕ → Why → Place
page_place n BadMapping = place.Marker
page_place n NoEndPage = place.End
page_place n why = place.Page n

-- the item that comes next; but a wrong mapping is reported at the marker
abbrev pub item_place : Stand → Why → Place
item_place s BadMapping = place.Marker
item_place s why = place_in s.phase s.index

-- the place of a packet that is no item: a page, if that page's fault cuts it off, or else the item
abbrev pub packet_place : Stand → Option ℕ × Why → Place
packet_place s (Some n, why) = page_place n why
packet_place s (None, why) = item_place s why
