-- Packets that lie one after another in memory, written in their turn.
use Rattle.std.proofs.Common.{◌≡◌, ℕ, suc, ◌+◌, ◌-◌, ◌/◌, ◌<◌, ◌≤◌, Bool, false, nat_eq, List, [], ◌∷◌, ◌++◌, length, take, drop, get_or, refl, sym, ap, subst, ◌∙◌, arith}
use Rattle.std.specs.List.{flat_map, range_with_len}
use Rattle.std.proofs.Math.Seq.{drop-cons}
use Rattle.std.proofs.lemmas.Bool.Decides.{nat_tests}
use Rattle.std.proofs.lemmas.Grind.{flat_map-append}
use Rattle.std.proofs.lemmas.List.{length-drop}
use Rattle.std.proofs.lemmas.List.Folds.{flat_map-map}
use Rattle.flac_bits.specs.Bits.{is_nil}
use Rattle.flac_bits.specs.Written.{Written}
use Rattle.flac_bits.proofs.Writing.{Towards}
use Rattle.flac_pages.specs.declared.writing.PacketAt.{PacketAt}
use Rattle.flac_pages.specs.declared.writing.PacketMarks.{PacketMarks}
use Rattle.flac_pages.specs.Page.{page_spelling}
use Rattle.flac_pages.specs.Written.{page_at, pages_of_packet, packet_spelling}
use Rattle.flac_pages.specs.Placed.{Placed, AreInOrder, placed_in, marks_of, sequence_after, pages_from}

-- the bits of these packets
abbrev pub bits_from : (serial sequence : ℕ) → (first : Bool) → List ℕ → (from : ℕ) → List PacketAt → List Bool
bits_from serial sequence first bytes from packets = flat_map page_spelling (pages_from serial sequence first (placed_in bytes from packets))

packet_joined : (m : PacketMarks) (packet : List ℕ) → flat_map page_spelling (pages_of_packet m packet) ≡ packet_spelling m packet
unfolding packet_spelling
packet_joined m packet = flat_map-map page_spelling (page_at m packet) (range_with_len 0 (length packet / 65025 + 1))

none_placed : (bytes : List ℕ) (from : ℕ) (packets : List PacketAt) → is_nil (placed_in bytes from packets) ≡ nat_eq (length packets) 0
none_placed bytes from [] = refl
none_placed bytes from (p ∷ ps) = let e : nat_eq (suc (length ps)) 0 ≡ false = grind (arith, nat_tests) in sym e

-- the first packet, and those after it
first_of_them : (serial sequence : ℕ) (first : Bool) (bytes : List ℕ) (from : ℕ) (p : PacketAt) (ps : List PacketAt) (last : Bool) → nat_eq (length ps) 0 ≡ last
    → bits_from serial sequence first bytes from (p ∷ ps)
    ≡ packet_spelling (record { serial = serial; sequence = sequence; kind = p.kind; first = first; last = last }) (take (p.end - from) (drop from bytes))
    ++ bits_from serial (sequence_after sequence (take (p.end - from) (drop from bytes))) false bytes p.end ps
first_of_them serial sequence first bytes from p ps last is =
    let packet = take (p.end - from) (drop from bytes) in
    let q : Placed = record { packet = packet; kind = p.kind } in
    let m = marks_of serial sequence first (is_nil (placed_in bytes p.end ps)) q in
    let others = pages_from serial (sequence_after sequence packet) false (placed_in bytes p.end ps) in
    flat_map-append page_spelling (pages_of_packet m packet) others ∙ ap (λ t. t ++ flat_map page_spelling others) (packet_joined m packet)
    ∙ ap (λ l. packet_spelling (marks_of serial sequence first l q) packet ++ flat_map page_spelling others) (none_placed bytes p.end ps ∙ is)

-- ---- the loop

-- before the packet of a number: those after it are in order, and still to be written
pub record StandsAt (serial sequence : ℕ) (bytes : List ℕ) (from i : ℕ) (packets : List PacketAt) (whole : List Bool) (old now : Written) : Type 0 where
  pub order : AreInOrder from (length bytes) (drop i packets)
  pub towards : Towards (bits_from serial sequence (nat_eq i 0) bytes from (drop i packets)) whole old now

-- the packet of a number, as it is read
pub next_is : (packets : List PacketAt) (i : ℕ) (p d : PacketAt) → i < length packets → p ≡ get_or packets i d → drop i packets ≡ p ∷ drop (i + 1) packets
next_is packets i p d lt is =
    let e : suc i ≡ i + 1 = omega arith in
    drop-cons packets i d lt ∙ ap (λ q. q ∷ drop (suc i) packets) (sym is) ∙ ap (λ n. p ∷ drop n packets) e

last_is : (packets : List PacketAt) (i : ℕ) → i < length packets → nat_eq (length (drop (i + 1) packets)) 0 ≡ nat_eq (i + 1) (length packets)
last_is packets i lt = ap (λ n. nat_eq n 0) (length-drop (i + 1) packets) ∙ tests (length packets) lt
  where
    tests : (n : ℕ) → i < n → nat_eq (n - (i + 1)) 0 ≡ nat_eq (i + 1) n
    tests n h = grind (arith, nat_tests, h)

pub in_order : (packets : List PacketAt) (i from most : ℕ) (p d : PacketAt) → i < length packets → p ≡ get_or packets i d → AreInOrder from most (drop i packets)
    → (from ≤ p.end) × (p.end ≤ most) × AreInOrder p.end most (drop (i + 1) packets)
in_order packets i from most p d lt is order = subst (λ l. AreInOrder from most l) (next_is packets i p d lt is) order

pub step_is : (serial sequence next : ℕ) (bytes : List ℕ) (from i : ℕ) (packets : List PacketAt) (p d : PacketAt) → i < length packets → p ≡ get_or packets i d
    → next ≡ sequence_after sequence (take (p.end - from) (drop from bytes))
    → bits_from serial sequence (nat_eq i 0) bytes from (drop i packets)
    ≡ packet_spelling (record { serial = serial; sequence = sequence; kind = p.kind; first = nat_eq i 0; last = nat_eq (i + 1) (length packets) }) (take (p.end - from) (drop from bytes))
    ++ bits_from serial next (nat_eq (i + 1) 0) bytes p.end (drop (i + 1) packets)
step_is serial sequence next bytes from i packets p d lt is number =
    let packet = take (p.end - from) (drop from bytes) in
    let front = packet_spelling (record { serial = serial; sequence = sequence; kind = p.kind; first = nat_eq i 0; last = nat_eq (i + 1) (length packets) }) packet in
    let further : nat_eq (i + 1) 0 ≡ false = grind (arith, nat_tests) in
    ap (λ l. bits_from serial sequence (nat_eq i 0) bytes from l) (next_is packets i p d lt is)
    ∙ first_of_them serial sequence (nat_eq i 0) bytes from p (drop (i + 1) packets) (nat_eq (i + 1) (length packets)) (last_is packets i lt)
    ∙ ap (λ b. front ++ bits_from serial (sequence_after sequence packet) b bytes p.end (drop (i + 1) packets)) (sym further)
    ∙ ap (λ n. front ++ bits_from serial n (nat_eq (i + 1) 0) bytes p.end (drop (i + 1) packets)) (sym number)
