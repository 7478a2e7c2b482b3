-- Header packets one after another, of which the last is held back.
use Rattle.std.proofs.Common.{◌≡◌, ℕ, ◌+◌, ◌%◌, ◌≤◌, Bool, true, false, List, [], ◌∷◌, ◌++◌, length, length-append, take, drop, refl, sym, ap, subst, ◌∙◌, arith, append_assoc}
use Rattle.std.specs.List.{All}
use Rattle.std.proofs.lemmas.List.{append-nil, length-drop, take-append-drop}
use Rattle.std.proofs.lemmas.List.Elements.{All-append}
use Rattle.flac_bits.specs.Bits.{unsigned, bits_of, is_nil}
use Rattle.flac_bits.specs.Forms.{AreBytes, IsBytes, joined}
use Rattle.flac_bits.proofs.Back.{same_parts}
use Rattle.flac_bits.proofs.Holding.{length-bits_of, bits_of-append}
use Rattle.flac_bits.proofs.Words.{length-unsigned}
use Rattle.flac_info.specs.Info.{Info}
use Rattle.flac_meta.specs.Spelling.{block_spelling}
use Rattle.flac_meta.specs.declared.block.Block.{Block}
use Rattle.flac_meta.specs.declared.block.Block.TheVariants as block_of
use Rattle.flac_native.proofs.WholeBytes.{length-joined}
use Rattle.flac_native.specs.Writing.{head_spelling, blocks_spelling}
use Rattle.flac_pages.specs.declared.writing.PacketKind.TheVariants.{Header}
use Rattle.flac_pages.specs.Placed.{Placed, IsPlaced, marks_of, sequence_after}
use Rattle.flac_pages.specs.Written.{packet_spelling}
use Rattle.flac_ogg.specs.Headers.{AreHeaders}
use Rattle.flac_ogg.specs.Listed.{texts_of, kinds_in}
use Rattle.flac_ogg.specs.Native.{mapping_spelling, block_spellings, packet_spellings}
use Rattle.flac_ogg.specs.Held.{ArePages}
use Rattle.flac_ogg.specs.Writing.{header_count}
use Rattle.flac_ogg.specs.declared.headers.Headers.{Headers}
use Rattle.flac_ogg.proofs.Listing.{texts_append, kinds_append}
use Rattle.flac_ogg.proofs.OpenPages.{pages_one, pages_more}
use Rattle.flac_ogg.proofs.Packing.{headers, headers_more}
use Rattle.flac_ogg.proofs.Whole.{block_long}

abbrev header : List ℕ → Placed
header packet = record { packet = packet; kind = Header }

pub alone : (p : Placed) → IsPlaced p → All IsPlaced (p ∷ [])
alone p is = grind (arith, is)

one_good : (packet : List ℕ) → AreBytes packet → All IsPlaced (header packet ∷ [])
one_good packet small = alone (header packet) (record { bytes = small; position = omega arith })

pub first_header : (h : Headers) (packet : List ℕ) → AreBytes packet → bits_of h.sent.items ≡ [] → bits_of h.held.middle.items ≡ packet_spelling (marks_of h.serial 0 true false (header packet)) packet
    → bits_of h.held.last.items ≡ packet_spelling (marks_of h.serial 0 true true (header packet)) packet → h.held.next ≡ sequence_after 0 packet → AreHeaders (bits_of packet ∷ []) h
first_header h packet small none middle last next = record {
  packets = header packet ∷ [];
  texts_are = refl;
  kinds_are = refl;
  good = one_good packet small;
  pages = subst (λ w. ArePages h.serial (header packet ∷ []) w (bits_of h.held.middle.items) (bits_of h.held.last.items) h.held.next) (sym none) (pages_one h.serial (header packet) (bits_of h.held.middle.items) (bits_of h.held.last.items) h.held.next middle last next);
}

pub more_headers : (old new : Headers) (packet : List ℕ) → AreBytes packet → new.serial ≡ old.serial → bits_of new.sent.items ≡ bits_of old.sent.items ++ bits_of old.held.middle.items
    → bits_of new.held.middle.items ≡ packet_spelling (marks_of old.serial old.held.next false false (header packet)) packet
    → bits_of new.held.last.items ≡ packet_spelling (marks_of old.serial old.held.next false true (header packet)) packet → new.held.next ≡ sequence_after old.held.next packet
    → (first : List Bool) (texts : List (List Bool)) → AreHeaders (first ∷ texts) old → AreHeaders ((first ∷ texts) ++ bits_of packet ∷ []) new
more_headers old new packet small serial sent middle last next first texts h = go h.packets h.texts_are h.kinds_are h.good h.pages
  where
    go : (packets : List Placed) → texts_of packets ≡ first ∷ texts → kinds_in packets ≡ headers (length (first ∷ texts)) → All IsPlaced packets
        → ArePages old.serial packets (bits_of old.sent.items) (bits_of old.held.middle.items) (bits_of old.held.last.items) old.held.next → AreHeaders ((first ∷ texts) ++ bits_of packet ∷ []) new
    go [] t k good pages = absurd (omega (arith, ap (λ (x : List (List Bool)). length x) t))
    go (p ∷ ps) t k good pages =
        let q = header packet in
        let many : length ((first ∷ texts) ++ bits_of packet ∷ []) ≡ length (first ∷ texts) + 1 = omega (arith, length-append (first ∷ texts) (bits_of packet ∷ [])) in
        let all = pages_more old.serial old.held.next new.held.next p ps q (bits_of old.sent.items) (bits_of old.held.middle.items) (bits_of old.held.last.items) (bits_of new.held.middle.items) (bits_of new.held.last.items) pages middle last next in
        record {
          packets = p ∷ (ps ++ q ∷ []);
          texts_are = texts_append (p ∷ ps) (q ∷ []) ∙ ap (λ x. x ++ bits_of packet ∷ []) t;
          kinds_are = kinds_append (p ∷ ps) (q ∷ []) ∙ ap (λ x. x ++ Header ∷ []) k ∙ sym (headers_more (length (first ∷ texts))) ∙ ap headers (sym many);
          good = All-append IsPlaced (p ∷ ps) (q ∷ []) good (one_good packet small);
          pages = subst (λ w. ArePages new.serial (p ∷ (ps ++ q ∷ [])) w (bits_of new.held.middle.items) (bits_of new.held.last.items) new.held.next) (sym sent)
              (subst (λ s. ArePages s (p ∷ (ps ++ q ∷ [])) (bits_of old.sent.items ++ bits_of old.held.middle.items) (bits_of new.held.middle.items) (bits_of new.held.last.items) new.held.next) (sym serial) all);
        }

-- ---- the first packet

-- the first 42 bytes of a native stream are the marker and STREAMINFO
pub head_cut : (info : Info) (list : List Block) (head : List ℕ) → IsBytes 16 info.digest → bits_of head ≡ head_spelling info list
    → (42 ≤ length head) × (bits_of (take 42 head) ≡ unsigned 32 0x664C6143 ++ block_spelling (is_nil list) (block_of.StreamInfo info))
head_cut info list head is e =
    let first = block_spelling (is_nil list) (block_of.StreamInfo info) in
    let rest = blocks_spelling list in
    let front = unsigned 32 0x664C6143 ++ first in
    let long : length front ≡ 336 = omega (arith, length-append (unsigned 32 0x664C6143) first, length-unsigned 32 0x664C6143, block_long (is_nil list) info is) in
    let split : bits_of head ≡ front ++ rest = e ∙ sym (append_assoc (unsigned 32 0x664C6143) first rest) in
    let many : 42 ≤ length head = omega (arith, length-bits_of head, ap (λ (k : List Bool). length k) split, length-append front rest, long) in
    let parts : bits_of (take 42 head) ++ bits_of (drop 42 head) ≡ front ++ rest = sym (bits_of-append (take 42 head) (drop 42 head)) ∙ ap bits_of (take-append-drop 42 head) ∙ split in
    let same : length (bits_of (drop 42 head)) ≡ length rest = omega (arith, length-bits_of head, length-bits_of (drop 42 head), ap (λ (k : List Bool). length k) split, length-append front rest, long, length-drop 42 head) in
    (many, (same_parts (bits_of (take 42 head)) (bits_of (drop 42 head)) front rest parts same).0)

-- the mapping, and the marker with STREAMINFO after it in place of the mapping's own marker
pub first_text : (count : ℕ) (block : List Bool) → joined (unsigned 40 0x7F464C4143 ∷ unsigned 16 0x0100 ∷ unsigned 16 count ∷ (unsigned 32 0x664C6143 ++ block) ∷ []) ≡ mapping_spelling count ++ block
first_text count block =
    let a = unsigned 40 0x7F464C4143 in
    let b = unsigned 16 0x0100 in
    let c = unsigned 16 count in
    let d = unsigned 32 0x664C6143 in
    let end : (d ++ block) ++ [] ≡ (d ++ []) ++ block = append-nil (d ++ block) ∙ ap (λ t. t ++ block) (sym (append-nil d)) in
    ap (λ t. a ++ (b ++ (c ++ t))) end ∙ sym (
    append_assoc a (b ++ (c ++ (d ++ []))) block ∙ ap (λ t. a ++ t) (append_assoc b (c ++ (d ++ [])) block ∙ ap (λ t. b ++ t) (append_assoc c (d ++ []) block)))

-- all of them
pub all_headers : (info : Info) (list : List Block) (head first : List ℕ) (h : Headers) → IsBytes 16 info.digest → bits_of head ≡ head_spelling info list
    → bits_of first ≡ joined (unsigned 40 0x7F464C4143 ∷ unsigned 16 0x0100 ∷ unsigned 16 (header_count (length list)) ∷ bits_of (take 42 head) ∷ [])
    → AreHeaders (bits_of first ∷ block_spellings list) h → AreHeaders (packet_spellings (header_count (length list)) info list []) h
all_headers info list head first h digest is text are =
    let count = header_count (length list) in
    let block = block_spelling (is_nil list) (block_of.StreamInfo info) in
    let here : bits_of first ≡ mapping_spelling count ++ block =
    text ∙ ap (λ (t : List Bool). joined (unsigned 40 0x7F464C4143 ∷ unsigned 16 0x0100 ∷ unsigned 16 count ∷ t ∷ [])) (head_cut info list head digest is).1 ∙ first_text count block in
    subst (λ (t : List (List Bool)). AreHeaders t h) (ap (λ (t : List Bool). t ∷ block_spellings list) here ∙ ap (λ (t : List (List Bool)). (mapping_spelling count ++ block) ∷ t) (sym (append-nil (block_spellings list)))) are

pub mapped_whole : (count : ℕ) (head : List ℕ) → length (joined (unsigned 40 0x7F464C4143 ∷ unsigned 16 0x0100 ∷ unsigned 16 count ∷ bits_of head ∷ [])) % 8 ≡ 0
mapped_whole count head =
    omega (
      arith,
      length-joined (unsigned 40 0x7F464C4143 ∷ unsigned 16 0x0100 ∷ unsigned 16 count ∷ bits_of head ∷ []),
      length-unsigned 40 0x7F464C4143,
      length-unsigned 16 0x0100,
      length-unsigned 16 count,
      length-bits_of head,
    )

-- a list of as many blocks
pub same_count : (bs list : List Block) (front first : List ℕ) → bs ≡ list → bits_of first ≡ joined (unsigned 40 0x7F464C4143 ∷ unsigned 16 0x0100 ∷ unsigned 16 (header_count (length bs)) ∷ bits_of front ∷ [])
    → bits_of first ≡ joined (unsigned 40 0x7F464C4143 ∷ unsigned 16 0x0100 ∷ unsigned 16 (header_count (length list)) ∷ bits_of front ∷ [])
same_count bs list front first is text = text ∙ ap (λ (l : List Block). joined (unsigned 40 0x7F464C4143 ∷ unsigned 16 0x0100 ∷ unsigned 16 (header_count (length l)) ∷ bits_of front ∷ [])) is
