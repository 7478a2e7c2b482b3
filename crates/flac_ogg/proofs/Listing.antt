-- Packets that lie one after another in memory.
use Rattle.std.proofs.Common.{◌≡◌, ℕ, ◌+◌, ◌/◌, Bool, List, [], ◌∷◌, ◌++◌, length, map, refl, sym, ap, subst}
use Rattle.std.specs.List.{flat_map, range_with_len}
use Rattle.std.specs.Int.{to_le_bytes, w32, w64}
use Rattle.std.proofs.lemmas.List.Concat.{flat_map-cons}
use Rattle.flac_bits.specs.Bits.{bits_of}
use Rattle.flac_bits.specs.Forms.{joined}
use Rattle.flac_native.proofs.WholeBytes.{Whole, whole_nil, whole_append, bits_whole}
use Rattle.flac_pages.specs.declared.writing.PacketKind.{PacketKind}
use Rattle.flac_pages.specs.Page.{Page, page_spelling}
use Rattle.flac_pages.specs.Placed.{Placed, stream_pages, stream_spelling}
use Rattle.flac_pages.specs.declared.writing.PacketMarks.{PacketMarks}
use Rattle.flac_pages.specs.Written.{page_at, packet_spelling}
use Rattle.flac_ogg.specs.Listed.{texts_of, kinds_in}

-- ---- packets after others

pub texts_append : (ps qs : List Placed) → texts_of (ps ++ qs) ≡ texts_of ps ++ texts_of qs
texts_append [] qs = refl
texts_append (p ∷ ps) qs = ap (λ (t : List (List Bool)). bits_of p.packet ∷ t) (texts_append ps qs)

pub kinds_append : (ps qs : List Placed) → kinds_in (ps ++ qs) ≡ kinds_in ps ++ kinds_in qs
kinds_append [] qs = refl
kinds_append (p ∷ ps) qs = ap (λ (t : List PacketKind). p.kind ∷ t) (kinds_append ps qs)

-- ---- whole bytes

parts_whole : (parts : List (List ℕ)) → Whole (joined (map bits_of parts))
parts_whole [] = whole_nil
parts_whole (part ∷ parts) = whole_append (bits_of part) (joined (map bits_of parts)) (bits_whole part) (parts_whole parts)

page_whole : (p : Page) → Whole (page_spelling p)
unfolding page_spelling
page_whole p = parts_whole (
    (0x4F ∷ 0x67 ∷ 0x67 ∷ 0x53 ∷ 0 ∷ p.head.flags ∷ []) ∷ to_le_bytes w64 p.head.granule ∷ to_le_bytes w32 p.head.serial ∷
    to_le_bytes w32 p.head.sequence ∷ to_le_bytes w32 p.head.sum ∷ (length p.lacing ∷ []) ∷ p.lacing ∷ p.body ∷ [])

pages_whole : (ps : List Page) → Whole (flat_map page_spelling ps)
pages_whole [] = whole_nil
pages_whole (p ∷ ps) = subst (λ t. Whole t) (sym (flat_map-cons page_spelling p ps)) (whole_append (page_spelling p) (flat_map page_spelling ps) (page_whole p) (pages_whole ps))

pub stream_whole : (serial : ℕ) (ps : List Placed) → Whole (stream_spelling serial ps)
unfolding stream_spelling
stream_whole serial ps = pages_whole (stream_pages serial ps)

flat_whole : (f : ℕ → List Bool) → ((k : ℕ) → Whole (f k)) → (ks : List ℕ) → Whole (flat_map f ks)
flat_whole f all [] = whole_nil
flat_whole f all (k ∷ ks) = subst (λ t. Whole t) (sym (flat_map-cons f k ks)) (whole_append (f k) (flat_map f ks) (all k) (flat_whole f all ks))

pub packet_whole : (m : PacketMarks) (packet : List ℕ) → Whole (packet_spelling m packet)
unfolding packet_spelling
packet_whole m packet = flat_whole (λ k. page_spelling (page_at m packet k)) (λ k. page_whole (page_at m packet k)) (range_with_len 0 (length packet / 65025 + 1))
