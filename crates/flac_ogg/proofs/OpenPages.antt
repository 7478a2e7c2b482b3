-- Pages of packets one after another, of which the last is held back.
use Rattle.std.proofs.Common.{◌≡◌, ℕ, ◌+◌, ◌/◌, Bool, true, false, List, [], ◌∷◌, ◌++◌, length, refl, sym, ap, ◌∙◌, append_assoc}
use Rattle.std.specs.List.{flat_map, range_with_len}
use Rattle.std.proofs.lemmas.Grind.{flat_map-append}
use Rattle.std.proofs.lemmas.List.{append-nil}
use Rattle.std.proofs.lemmas.List.Folds.{flat_map-map}
use Rattle.flac_bits.specs.Bits.{is_nil}
use Rattle.flac_pages.specs.declared.writing.PacketMarks.{PacketMarks}
use Rattle.flac_pages.specs.Page.{page_spelling}
use Rattle.flac_pages.specs.Written.{page_at, pages_of_packet, packet_spelling}
use Rattle.flac_pages.specs.Placed.{Placed, marks_of, sequence_after, pages_from, stream_spelling}
use Rattle.flac_ogg.specs.Held.{open_from, number_after, ArePages}

pub packet_joined : (m : PacketMarks) (packet : List ℕ) → flat_map page_spelling (pages_of_packet m packet) ≡ packet_spelling m packet
unfolding packet_spelling
packet_joined m packet = flat_map-map page_spelling (page_at m packet) (range_with_len 0 (length packet / 65025 + 1))

-- whether the packet after these is the first
abbrev pub is_first : Bool → List Placed → Bool
is_first first [] = first
is_first first (p ∷ ps) = false

pub later : (ps : List Placed) → is_first false ps ≡ false
later [] = refl
later (p ∷ ps) = refl

some_more : (ps : List Placed) (q : Placed) → is_nil (ps ++ q ∷ []) ≡ false
some_more [] q = refl
some_more (p ∷ ps) q = refl

-- ---- one packet after others

last_packet : (serial n : ℕ) (first : Bool) (ps : List Placed) (q : Placed)
    → flat_map page_spelling (pages_from serial n first (ps ++ q ∷ [])) ≡ open_from serial n first ps ++ packet_spelling (marks_of serial (number_after n ps) (is_first first ps) true q) q.packet
last_packet serial n first [] q =
    let m = marks_of serial n first true q in
    flat_map-append page_spelling (pages_of_packet m q.packet) [] ∙ ap (λ t. t ++ []) (packet_joined m q.packet) ∙ append-nil (packet_spelling m q.packet)
last_packet serial n first (p ∷ ps) q =
    let m = marks_of serial n first (is_nil (ps ++ q ∷ [])) p in
    let k = sequence_after n p.packet in
    let others = pages_from serial k false (ps ++ q ∷ []) in
    let end = packet_spelling (marks_of serial (number_after k ps) false true q) q.packet in
    let one : flat_map page_spelling (pages_of_packet m p.packet) ≡ packet_spelling (marks_of serial n first false p) p.packet =
    packet_joined m p.packet ∙ ap (λ l. packet_spelling (marks_of serial n first l p) p.packet) (some_more ps q) in
    let rest : flat_map page_spelling others ≡ open_from serial k false ps ++ end =
    last_packet serial k false ps q ∙ ap (λ f. open_from serial k false ps ++ packet_spelling (marks_of serial (number_after k ps) f true q) q.packet) (later ps) in
    flat_map-append page_spelling (pages_of_packet m p.packet) others ∙ ap (λ t. t ++ flat_map page_spelling others) one ∙ ap (λ t. packet_spelling (marks_of serial n first false p) p.packet ++ t) rest
    ∙ sym (append_assoc (packet_spelling (marks_of serial n first false p) p.packet) (open_from serial k false ps) end)

pub open_packet : (serial n : ℕ) (first : Bool) (ps : List Placed) (q : Placed)
    → open_from serial n first (ps ++ q ∷ []) ≡ open_from serial n first ps ++ packet_spelling (marks_of serial (number_after n ps) (is_first first ps) false q) q.packet
open_packet serial n first [] q = append-nil (packet_spelling (marks_of serial n first false q) q.packet)
open_packet serial n first (p ∷ ps) q =
    let k = sequence_after n p.packet in
    let front = packet_spelling (marks_of serial n first false p) p.packet in
    let end = packet_spelling (marks_of serial (number_after k ps) false false q) q.packet in
    let rest : open_from serial k false (ps ++ q ∷ []) ≡ open_from serial k false ps ++ end =
    open_packet serial k false ps q ∙ ap (λ f. open_from serial k false ps ++ packet_spelling (marks_of serial (number_after k ps) f false q) q.packet) (later ps) in
    ap (λ t. front ++ t) rest ∙ sym (append_assoc front (open_from serial k false ps) end)

pub next_number : (n : ℕ) (ps : List Placed) (q : Placed) → number_after n (ps ++ q ∷ []) ≡ sequence_after (number_after n ps) q.packet
next_number n [] q = refl
next_number n (p ∷ ps) q = next_number (sequence_after n p.packet) ps q

-- ---- what was written, and what is held

pub pages_one : (serial : ℕ) (q : Placed) (middle last : List Bool) (n : ℕ) → middle ≡ packet_spelling (marks_of serial 0 true false q) q.packet → last ≡ packet_spelling (marks_of serial 0 true true q) q.packet
    → n ≡ sequence_after 0 q.packet → ArePages serial (q ∷ []) [] middle last n
unfolding stream_spelling
pages_one serial q middle last n middle_is last_is next = record {
  middle_is = middle_is ∙ sym (open_packet serial 0 true [] q);
  last_is = last_is ∙ sym (last_packet serial 0 true [] q);
  next = next;
}

pub pages_more : (serial n m : ℕ) (p : Placed) (ps : List Placed) (q : Placed) (written middle last middle' last' : List Bool) → ArePages serial (p ∷ ps) written middle last n
    → middle' ≡ packet_spelling (marks_of serial n false false q) q.packet → last' ≡ packet_spelling (marks_of serial n false true q) q.packet → m ≡ sequence_after n q.packet
    → ArePages serial (p ∷ (ps ++ q ∷ [])) (written ++ middle) middle' last' m
unfolding stream_spelling
pages_more serial n m p ps q written middle last middle' last' h middle_is last_is next =
    let before = p ∷ ps in
    let at : n ≡ number_after 0 before = h.next in
    record {
      middle_is = ap (λ t. t ++ middle') h.middle_is ∙ ap (λ t. open_from serial 0 true before ++ t) (middle_is ∙ ap (λ k. packet_spelling (marks_of serial k false false q) q.packet) at) ∙ sym (open_packet serial 0 true before q);
      last_is = ap (λ t. t ++ last') h.middle_is ∙ ap (λ t. open_from serial 0 true before ++ t) (last_is ∙ ap (λ k. packet_spelling (marks_of serial k false true q) q.packet) at) ∙ sym (last_packet serial 0 true before q);
      next = next ∙ ap (λ k. sequence_after k q.packet) at ∙ sym (next_number 0 before q);
    }
