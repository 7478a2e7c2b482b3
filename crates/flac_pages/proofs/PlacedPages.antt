-- Packets written one after another are good pages, which have just these packets.
use Rattle.std.proofs.Common.{◌≡◌, ℕ, zero, suc, ◌+◌, ◌/◌, ◌%◌, ◌^◌, ◌<◌, Bool, true, false, List, [], ◌∷◌, ◌++◌, length, map, replicate, Option, Some, None, refl, sym, ap, subst, ◌∙◌, arith, append_assoc, inl, inr}
use Rattle.std.specs.Prelude.{◌⊎◌}
use Rattle.std.specs.Bool.{⊤}
use Rattle.std.specs.List.{All, flat_map, range_with_len}
use Rattle.std.proofs.lemmas.Grind.{flat_map-append}
use Rattle.std.proofs.lemmas.List.Concat.{flat_map-cons}
use Rattle.std.proofs.lemmas.List.{append-nil}
use Rattle.std.proofs.lemmas.List.Elements.{All-tail}
use Rattle.flac_bits.specs.Bits.{is_nil}
use Rattle.flac_bits.specs.Meaning.{AllKept}
use Rattle.flac_bits.specs.State.{Mark, past}
use Rattle.flac_pages.specs.declared.page.Before.{Before}
use Rattle.flac_pages.specs.declared.writing.PacketMarks.{PacketMarks}
use Rattle.flac_pages.specs.Page.{Page, page_spelling, end_rules, after_page}
use Rattle.flac_pages.specs.Pages.{GoodPages, closed}
use Rattle.flac_pages.specs.Packets.{Packets, lacing_of}
use Rattle.flac_pages.specs.Written.{IsPage, page_at, pages_of_packet}
use Rattle.flac_pages.specs.Runs.{FinalLast}
use Rattle.flac_pages.specs.Placed.{Placed, IsPlaced, WrittenPagesAreGood, marks_of, sequence_after, pages_from, stream_pages, stream_spelling}
use Rattle.flac_pages.proofs.Cut.{pages_have_packets}
use Rattle.flac_pages.proofs.PageRuns.{pages_are_runs}
use Rattle.flac_pages.proofs.PageTie.{pages_spelled}
use Rattle.flac_pages.proofs.PageStands.{MayBeWritten, Leaves, stands, first_after_packet, first_starts, further_after, left_open, left_ended, marked_more, marked_last}

-- ---- pages that may stand one after another

abbrev AllStand : Option Before → List Page → Type 0
AllStand before [] = ⊤
AllStand before (p ∷ ps) = IsPage before p × AllStand (Some (after_page before p)) ps

good_pages : (ps : List Page) (before : Option Before) (m : Mark) → AllStand before ps → GoodPages before m ps (flat_map page_spelling ps)
good_pages [] before m all = refl
good_pages (p ∷ ps) before m all = (
  page_spelling p,
  flat_map page_spelling ps,
  flat_map-cons page_spelling p ps,
  (pages_spelled before m (page_spelling p) p).1 (all.0, refl),
  good_pages ps (Some (after_page before p)) (past (page_spelling p) m) all.1,
)

-- ---- one packet's pages from a page on, and those after them

module _ (m : PacketMarks) (packet : List ℕ) (qs : List Page) where
  stand_from : (n k : ℕ) (before : Option Before) → MayBeWritten m packet → k + n ≡ length packet / 65025 → AllKept (end_rules before (page_at m packet k))
      → ((b : Before) → Leaves m.serial ((m.sequence + (length packet / 65025 + 1)) % 2 ^ 32) false b → AllStand (Some b) qs)
      → AllStand before (map (page_at m packet) (range_with_len k (suc n)) ++ qs)
  stand_from zero k before may e kept others = (stands m packet k zero before may e kept, others (after_page before (page_at m packet k)) (left_ended m packet k before (omega (arith, e))))
  stand_from (suc n) k before may e kept others =
      let is : k + 1 ≡ suc k = omega arith in
      let more = left_open m packet k before (omega (arith, e)) in
      let next = after_page before (page_at m packet k) in
      let due = subst (λ j. Leaves m.serial ((m.sequence + j) % 2 ^ 32) true next) is more in (
        stands m packet k (suc n) before may e kept,
        subst (λ j. AllStand (Some next) (map (page_at m packet) (range_with_len j (suc n)) ++ qs)) (sym is) (stand_from n (suc k) (Some next) may (omega (arith, e)) (further_after m packet k next due) others),
      )

  final_from : (n k : ℕ) → k + n ≡ length packet / 65025 → ((m.last ≡ true) × (qs ≡ [])) ⊎ ((m.last ≡ false) × FinalLast qs) → FinalLast (map (page_at m packet) (range_with_len k (suc n)) ++ qs)
  final_from zero k e (inl (marked, none)) = inl (marked_last m packet k (omega (arith, e)) ∙ marked, none)
  final_from zero k e (inr (unmarked, others)) = inr (marked_last m packet k (omega (arith, e)) ∙ unmarked, others)
  final_from (suc n) k e h = inr (marked_more m packet k (omega (arith, e)), final_from n (k + 1) (omega (arith, e)) h)

  all_of_them : length packet / 65025 + 1 ≡ suc (length packet / 65025)
  all_of_them = omega arith

  packet_stands : (before : Option Before) → MayBeWritten m packet → AllKept (end_rules before (page_at m packet 0))
      → ((b : Before) → Leaves m.serial ((m.sequence + (length packet / 65025 + 1)) % 2 ^ 32) false b → AllStand (Some b) qs) → AllStand before (pages_of_packet m packet ++ qs)
  packet_stands before may kept others =
      subst (λ j. AllStand before (map (page_at m packet) (range_with_len 0 j) ++ qs)) (sym all_of_them) (stand_from (length packet / 65025) 0 before may (omega arith) kept others)

  packet_final : ((m.last ≡ true) × (qs ≡ [])) ⊎ ((m.last ≡ false) × FinalLast qs) → FinalLast (pages_of_packet m packet ++ qs)
  packet_final h = subst (λ j. FinalLast (map (page_at m packet) (range_with_len 0 j) ++ qs)) (sym all_of_them) (final_from (length packet / 65025) 0 (omega arith) h)

-- ---- all packets

may_be : (serial sequence : ℕ) (first last : Bool) (p : Placed) → serial < 2 ^ 32 → IsPlaced p → MayBeWritten (marks_of serial sequence first last p) p.packet
may_be serial sequence first last p small h = record { position = h.position; stream = small; bytes = h.bytes }

module _ (serial : ℕ) (small : serial < 2 ^ 32) where
  all_stand : (ps : List Placed) (sequence : ℕ) (b : Before) → sequence < 2 ^ 32 → All IsPlaced ps → Leaves serial sequence false b → AllStand (Some b) (pages_from serial sequence false ps)
  all_stand [] sequence b low all leaves = tt
  all_stand (p ∷ ps) sequence b low all leaves =
      let m = marks_of serial sequence false (is_nil ps) p in
      packet_stands m p.packet (pages_from serial (sequence_after sequence p.packet) false ps) (Some b) (may_be serial sequence false (is_nil ps) p small (all 0 p (omega arith))) (first_after_packet m p.packet b low refl leaves)
      (λ c then. all_stand ps (sequence_after sequence p.packet) c (omega arith) (All-tail IsPlaced p ps all) then)

  stream_stands : (p : Placed) (ps : List Placed) → length p.packet ≡ 51 → All IsPlaced (p ∷ ps) → AllStand None (stream_pages serial (p ∷ ps))
  stream_stands p ps long all =
      let m = marks_of serial 0 true (is_nil ps) p in
      packet_stands m p.packet (pages_from serial (sequence_after 0 p.packet) false ps) None (may_be serial 0 true (is_nil ps) p small (all 0 p (omega arith))) (first_starts m p.packet refl long)
      (λ c then. all_stand ps (sequence_after 0 p.packet) c (omega arith) (All-tail IsPlaced p ps all) then)

final_last : (serial sequence : ℕ) (first : Bool) (p : Placed) (ps : List Placed) → FinalLast (pages_from serial sequence first (p ∷ ps))
final_last serial sequence first p [] = packet_final (marks_of serial sequence first true p) p.packet [] (inl (refl, refl))
final_last serial sequence first p (q ∷ qs) =
    packet_final (marks_of serial sequence first false p) p.packet (pages_from serial (sequence_after sequence p.packet) false (q ∷ qs)) (inr (refl, final_last serial (sequence_after sequence p.packet) false q qs))

-- ---- the packets

joined_packets : (ps qs : List Page) (packet : List ℕ) (packets : List (List ℕ)) → Packets ps (packet ∷ []) [] → Packets qs packets [] → Packets (ps ++ qs) (packet ∷ packets) []
joined_packets ps qs packet packets a b = record {
  full = b.full;
  lacing = flat_map-append (λ (p : Page). p.lacing) ps qs ∙ ap (λ l. l ++ flat_map (λ (p : Page). p.lacing) qs) one_lacing ∙ ap (λ l. lacing_of packet ++ l) b.lacing ∙ sym (append_assoc (lacing_of packet) (flat_map lacing_of packets) (replicate b.full 255));
  bytes = flat_map-append (λ (p : Page). p.body) ps qs ∙ ap (λ l. l ++ flat_map (λ (p : Page). p.body) qs) one_body ∙ ap (λ l. packet ++ l) b.bytes ∙ sym (append_assoc packet (flat_map (λ (x : List ℕ). x) packets) []);
  part = b.part;
}
  where
    none : a.full ≡ 0
    none = let part = a.part in omega (arith, part)

    one_lacing : flat_map (λ (p : Page). p.lacing) ps ≡ lacing_of packet
    one_lacing = a.lacing ∙ ap (λ n. (lacing_of packet ++ []) ++ replicate n 255) none ∙ append-nil (lacing_of packet ++ []) ∙ append-nil (lacing_of packet)

    one_body : flat_map (λ (p : Page). p.body) ps ≡ packet
    one_body = a.bytes ∙ append-nil (packet ++ []) ∙ append-nil packet

just_packets : (serial sequence : ℕ) (first : Bool) (ps : List Placed) → Packets (pages_from serial sequence first ps) (map (λ q. q.packet) ps) []
just_packets serial sequence first [] = record { full = 0; lacing = refl; bytes = refl; part = refl }
just_packets serial sequence first (p ∷ ps) =
    joined_packets _ (pages_from serial (sequence_after sequence p.packet) false ps) p.packet (map (λ q. q.packet) ps)
    (pages_have_packets (marks_of serial sequence first (is_nil ps) p) p.packet) (just_packets serial (sequence_after sequence p.packet) false ps)

-- ---- the law

pub written_pages_are_good : WrittenPagesAreGood
unfolding stream_spelling
written_pages_are_good serial p ps m small long all =
    let pages = stream_pages serial (p ∷ ps) in
    let text = flat_map page_spelling pages in
    let good = good_pages pages None m (stream_stands serial small p ps long all) in
    let final = final_last serial 0 true p ps in
    record {
      good = good;
      final = final;
      just = just_packets serial 0 true (p ∷ ps);
      again = λ rest. (pages_are_runs None (record { left = text ++ rest; mark = m }) (record { pages = pages; stop = closed (record { left = rest; mark = past text m }) })).0
          (record { text = text; rest = rest; stands = refl; good = good; ends = (final, refl) });
    }
