-- Frames that are sent one after another, each in the pages of a packet.
use Rattle.std.proofs.Common.{◌≡◌, ℕ, zero, suc, ◌+◌, ◌-◌, ◌*◌, ◌/◌, ◌%◌, ◌^◌, ◌<◌, ◌≤◌, min, Bool, true, false, nat_eq, List, [], ◌∷◌, ◌++◌, length, length-append, drop, refl, sym, ap, subst, ◌∙◌, arith, append_assoc, Result, Ok, Err, inl, inr}
use Rattle.std.specs.Int.{to_le_bytes, w32, w64}
use Rattle.std.specs.List.{All, flat_map, range_with_len}
use Rattle.std.proofs.Math.Nat.{mul-suc}
use Rattle.std.proofs.lemmas.Bool.{cases_lt}
use Rattle.std.proofs.lemmas.Bool.{eq-eqb}
use Rattle.std.proofs.lemmas.Bool.Decides.{eqb_tells}
use Rattle.std.proofs.lemmas.Grind.{flat_map-append}
use Rattle.std.proofs.lemmas.List.{append-nil, length-drop, length-take}
use Rattle.std.proofs.lemmas.List.Concat.{flat_map-cons}
use Rattle.std.proofs.lemmas.List.Elements.{All-nil, All-cons, All-append}
use Rattle.flac_bits.specs.Bits.{bits_of, is_nil}
use Rattle.flac_bits.specs.Forms.{AreBytes}
use Rattle.flac_bits.specs.Sending.{Sends}
use Rattle.flac_bits.specs.declared.target.Target as target
use Rattle.flac_bits.specs.declared.why.Why.{Why}
use Rattle.flac_bits.proofs.Holding.{length-bits_of}
use Rattle.flac_meta.specs.declared.seek_table.SeekPoint.{SeekPoint}
use Rattle.flac_frame.specs.Audio.{Sound, samples_each}
use Rattle.flac_frame.proofs.FrameTie.{frames_bytes}
use Rattle.flac_native.specs.Given.{Cut, tried, blocks_in, frame_of}
use Rattle.flac_native.specs.Writing.{SpellsFrame, SpellsLeastByPlane, AreFrames, AreLeastFrames, AreCounted, IsSpelled}
use Rattle.flac_native.proofs.Encoded.{least_part, all_parts}
use Rattle.flac_native.proofs.WholeBytes.{length-joined}
use Rattle.flac_native.proofs.Gathered.{nth, snoc, length-snoc, each_more}
use Rattle.flac_native.proofs.Spelled.{as_long, sends_bits, came_out, bits_none, bits_then, bits_fault, each_append, each_drop}
use Rattle.flac_pages.specs.declared.writing.PacketKind.{PacketKind}
use Rattle.flac_pages.specs.declared.writing.PacketKind.TheVariants.{Frame}
use Rattle.flac_pages.specs.declared.writing.PacketMarks.{PacketMarks}
use Rattle.flac_pages.specs.Packets.{lacing_of}
use Rattle.flac_pages.specs.Page.{Page, page_spelling}
use Rattle.flac_pages.specs.Placed.{Placed, IsPlaced, marks_of, sequence_after, pages_from}
use Rattle.flac_pages.specs.Written.{page_at, pages_of_packet, packet_spelling}
use Rattle.flac_ogg.specs.Listed.{texts_of, kinds_in}
use Rattle.flac_ogg.specs.Held.{open_from, number_after}
use Rattle.flac_ogg.specs.Writing.{frames_to}
use Rattle.flac_ogg.specs.inner.Writing.{SendsPackets}
use Rattle.flac_ogg.proofs.BitsAsBytes.{bytes_in, bytes_back, bytes_small}
use Rattle.flac_ogg.proofs.Listing.{texts_append, kinds_append}
use Rattle.flac_ogg.proofs.OpenPages.{packet_joined, is_first, later, open_packet, next_number}
use Rattle.flac_native.specs.Sent.{SendsBits}

-- ---- pages of packets after others

-- the first packet, and those after it
pub first_packet : (serial n : ℕ) (first : Bool) (q : Placed) (qs : List Placed)
    → flat_map page_spelling (pages_from serial n first (q ∷ qs)) ≡ packet_spelling (marks_of serial n first (is_nil qs) q) q.packet ++ flat_map page_spelling (pages_from serial (sequence_after n q.packet) false qs)
first_packet serial n first q qs =
    let m = marks_of serial n first (is_nil qs) q in
    let others = pages_from serial (sequence_after n q.packet) false qs in
    flat_map-append page_spelling (pages_of_packet m q.packet) others ∙ ap (λ t. t ++ flat_map page_spelling others) (packet_joined m q.packet)

more_follow : (ps : List Placed) (q : Placed) (qs : List Placed) → is_nil (ps ++ q ∷ qs) ≡ false
more_follow [] q qs = refl
more_follow (p ∷ ps) q qs = refl

-- packets that more follow, and these
pub after_open : (serial n : ℕ) (first : Bool) (ps : List Placed) (q : Placed) (qs : List Placed)
    → flat_map page_spelling (pages_from serial n first (ps ++ q ∷ qs)) ≡ open_from serial n first ps ++ flat_map page_spelling (pages_from serial (number_after n ps) (is_first first ps) (q ∷ qs))
after_open serial n first [] q qs = refl
after_open serial n first (p ∷ ps) q qs =
    let k = sequence_after n p.packet in
    let front = packet_spelling (marks_of serial n first false p) p.packet in
    let end = flat_map page_spelling (pages_from serial (number_after k ps) false (q ∷ qs)) in
    let one : packet_spelling (marks_of serial n first (is_nil (ps ++ q ∷ qs)) p) p.packet ≡ front = ap (λ l. packet_spelling (marks_of serial n first l p) p.packet) (more_follow ps q qs) in
    let rest : flat_map page_spelling (pages_from serial k false (ps ++ q ∷ qs)) ≡ open_from serial k false ps ++ end =
    after_open serial k false ps q qs ∙ ap (λ f. open_from serial k false ps ++ flat_map page_spelling (pages_from serial (number_after k ps) f (q ∷ qs))) (later ps) in
    first_packet serial n first p (ps ++ q ∷ qs) ∙ ap (λ t. t ++ flat_map page_spelling (pages_from serial k false (ps ++ q ∷ qs))) one ∙ ap (λ t. front ++ t) rest ∙ sym (append_assoc front (open_from serial k false ps) end)

-- ---- frames as packets

-- from the frame of a number on, each with the number of samples so far at its end
abbrev pub packed : (block_size total number : ℕ) → List (List Bool) → List Placed
packed b total n [] = []
packed b total n (t ∷ ts) = record { packet = bytes_in (length t / 8) t; kind = Frame (min total (b * suc n)) } ∷ packed b total (suc n) ts

same_end : (b total n : ℕ) (ts : List (List Bool)) → is_nil (packed b total n ts) ≡ is_nil ts
same_end b total n [] = refl
same_end b total n (t ∷ ts) = refl

-- each is of whole bytes
abbrev pub AreWhole : List (List Bool) → Type 0
AreWhole ts = (i : ℕ) → i < length ts → length (nth ts i) % 8 ≡ 0

pub texts_packed : (b total n : ℕ) (ts : List (List Bool)) → AreWhole ts → texts_of (packed b total n ts) ≡ ts
texts_packed b total n [] whole = refl
texts_packed b total n (t ∷ ts) whole =
    let first : length t % 8 ≡ 0 = whole zero (omega arith) in
    let here : bits_of (bytes_in (length t / 8) t) ≡ t = bytes_back (length t / 8) t (omega (arith, first)) in
    ap (λ (k : List Bool). k ∷ texts_of (packed b total (suc n) ts)) here ∙ ap (λ (k : List (List Bool)). t ∷ k) (texts_packed b total (suc n) ts (λ i lt. whole (suc i) (omega (arith, lt))))

pub kinds_packed : (b total n : ℕ) (ts : List (List Bool)) → frames_to b total n ++ kinds_in (packed b total n ts) ≡ frames_to b total (n + length ts)
kinds_packed b total n [] = append-nil (frames_to b total n) ∙ ap (frames_to b total) (let e : n ≡ n + 0 = omega arith in e)
kinds_packed b total n (t ∷ ts) =
    let first : PacketKind = Frame (min total (b * suc n)) in
    let e : suc n + length ts ≡ n + suc (length ts) = omega arith in
    sym (append_assoc (frames_to b total n) (first ∷ []) (kinds_in (packed b total (suc n) ts))) ∙ kinds_packed b total (suc n) ts ∙ ap (frames_to b total) e

pub good_packed : (b total n : ℕ) (ts : List (List Bool)) → total < 2 ^ 64 → AreWhole ts → All IsPlaced (packed b total n ts)
good_packed b total n [] few whole = All-nil IsPlaced
good_packed b total n (t ∷ ts) few whole =
    let first : length t % 8 ≡ 0 = whole zero (omega arith) in
    let position : min total (b * suc n) < 2 ^ 64 = omega (arith, few) in
    All-cons IsPlaced (record { packet = bytes_in (length t / 8) t; kind = Frame (min total (b * suc n)) }) (packed b total (suc n) ts) (record { bytes = bytes_small (length t / 8) t (omega (arith, first)); position = position })
    (good_packed b total (suc n) ts few (λ i lt. whole (suc i) (omega (arith, lt))))

pub differ : (x y : ℕ) → x < y → nat_eq x y ≡ false
differ x y h = elim (eqb_tells x y) [
  | inl p ↦ absurd (omega (arith, p.1, h))
  | inr p ↦ p.0
]

pub agree : (x y : ℕ) → x ≡ y → nat_eq x y ≡ true
agree x y h = eq-eqb x y h

ends_with : (rest : List (List Bool)) (m n : ℕ) → m + length rest ≡ n → is_nil rest ≡ nat_eq m n
ends_with [] m n e = let is : m ≡ n = omega (arith, e) in sym (eq-eqb m n is)
ends_with (t ∷ ts) m n e = let below : m < n = omega (arith, e) in sym (differ m n below)

pub spelled_whole : (p : Cut) (a : Sound) (ts : List (List Bool)) (n : ℕ) → ((j : ℕ) → j < length ts → SpellsFrame a (frame_of p.block_size a (n + j)) (nth ts j)) → AreWhole ts
spelled_whole p a ts n each i lt = let k = each i lt in ap (λ (t : List Bool). length t % 8) k.spelling ∙ frames_bytes a.bits k.form

-- what was sent in bytes
pub sends_as : {S X E : Type 0} (g : target.Ghosts S) (bytes : List ℕ) (t : List Bool) (old new : S) (r : Result X E) → bits_of bytes ≡ t → Sends g bytes old new r → SendsBits g t old new r
sends_as g bytes t old new r e s = subst (λ k. SendsBits g k old new r) e (sends_bits g bytes old new r s)

-- ---- counts

position_fits : (total n : ℕ) → total < 2 ^ 64 → min total n < 2 ^ 64
position_fits total n few = omega arith

one_more : (n : ℕ) → suc n ≡ n + 1
one_more n = omega arith

no_more : (n : ℕ) → n + 0 ≡ n
no_more n = omega arith

no_index : (i : ℕ) → i < 0 → ⊥
no_index i h = absurd (omega arith)

drop_rest : (n left long many : ℕ) → left ≡ long - (n + 1) → long ≡ many → n < many → n + 1 + left ≡ many
drop_rest n left long many e f lt = omega arith

-- ---- frames so far

-- n frames were sent, in pages from one of a number on
pub record SentPackets {S : Type 0} (g : target.Ghosts S) (serial from : ℕ) (p : Cut) (a : Sound) (number sequence : ℕ) (old new : S) : Type 0 where
  pub frames : List (List Bool)
  pub packets : List Placed
  pub many : length frames ≡ number
  pub each : (i : ℕ) → i < length frames → SpellsFrame a (frame_of p.block_size a i) (nth frames i)
  pub each_least : (i : ℕ) → i < length frames → SpellsLeastByPlane (tried p i) a (frame_of p.block_size a i) (nth frames i)
  pub texts : texts_of packets ≡ frames
  pub kinds : kinds_in packets ≡ frames_to p.block_size (samples_each a.channels) number
  pub good : All IsPlaced packets
  pub next : sequence ≡ number_after from packets
  pub sends : SendsBits g (open_from serial from false packets) old new came_out

module _ {S : Type 0} (g : target.Ghosts S) (serial from : ℕ) (p : Cut) (a : Sound) where
  abbrev total : ℕ
  total = samples_each a.channels

  pub packets_none : (w : S) → SentPackets g serial from p a 0 from w w
  packets_none w = record { frames = []; packets = []; many = refl; each = λ i h. absurd (no_index i h); each_least = λ i h. absurd (no_index i h); texts = refl; kinds = refl; good = All-nil IsPlaced; next = refl; sends = bits_none g w }

  abbrev frame_packet : (number : ℕ) → List ℕ → Placed
  frame_packet number packet = record { packet = packet; kind = Frame (min total (p.block_size * suc number)) }

  -- one more frame, that others follow
  pub packets_more : (number sequence : ℕ) (old mid new : S) (packet : List ℕ) → total < 2 ^ 64 → AreBytes packet → SentPackets g serial from p a number sequence old mid → IsSpelled p a number (bits_of packet)
      → SendsBits g (packet_spelling (marks_of serial sequence false false (frame_packet number packet)) packet) mid new came_out → SentPackets g serial from p a (number + 1) (sequence_after sequence packet) old new
  packets_more number sequence old mid new packet few small s is sends =
      let q = frame_packet number packet in
      let t = bits_of packet in
      let position : min total (p.block_size * suc number) < 2 ^ 64 = position_fits total (p.block_size * suc number) few in
      let up = one_more number in
      let pages : open_from serial from false (s.packets ++ q ∷ []) ≡ open_from serial from false s.packets ++ packet_spelling (marks_of serial sequence false false q) packet =
      open_packet serial from false s.packets q ∙ ap (λ f. open_from serial from false s.packets ++ packet_spelling (marks_of serial (number_after from s.packets) f false q) packet) (later s.packets)
      ∙ ap (λ k. open_from serial from false s.packets ++ packet_spelling (marks_of serial k false false q) packet) (sym s.next) in
      record {
        frames = snoc s.frames t;
        packets = s.packets ++ q ∷ [];
        many = length-snoc s.frames t ∙ ap (λ n. n + 1) s.many;
        each = each_more (λ i k. SpellsFrame a (frame_of p.block_size a i) k) s.frames t s.each (subst (λ n. SpellsFrame a (frame_of p.block_size a n) t) (sym s.many) is.frame);
        each_least = each_more (λ i k. SpellsLeastByPlane (tried p i) a (frame_of p.block_size a i) k) s.frames t s.each_least (subst (λ n. SpellsLeastByPlane (tried p n) a (frame_of p.block_size a n) t) (sym s.many) is.least);
        texts = texts_append s.packets (q ∷ []) ∙ ap (λ (l : List (List Bool)). l ++ t ∷ []) s.texts;
        kinds = kinds_append s.packets (q ∷ []) ∙ ap (λ (l : List PacketKind). l ++ q.kind ∷ []) s.kinds ∙ ap (frames_to p.block_size total) up;
        good = All-append IsPlaced s.packets (q ∷ []) s.good (All-cons IsPlaced q [] (record { bytes = small; position = position }) (All-nil IsPlaced));
        next = ap (λ k. sequence_after k packet) s.next ∙ sym (next_number from s.packets q);
        sends = subst (λ k. SendsBits g k old new came_out) (sym pages) (bits_then g came_out s.sends sends);
      }

  -- The packet of a number, and frames after it.
  pub packets_end : {X E : Type 0} (number sequence : ℕ) (old mid new : S) (packet : List ℕ) (last : Bool) (rest : List (List Bool)) (r : Result X E) → total < 2 ^ 64 → AreBytes packet → (s : SentPackets g serial from p a number sequence old mid)
      → IsSpelled p a number (bits_of packet) → number + 1 + length rest ≡ blocks_in p.block_size total → is_nil rest ≡ last
      → ((j : ℕ) → j < length rest → SpellsFrame a (frame_of p.block_size a (number + 1 + j)) (nth rest j)) → ((j : ℕ) → j < length rest → SpellsLeastByPlane (tried p (number + 1 + j)) a (frame_of p.block_size a (number + 1 + j)) (nth rest j))
      → ((more : List Bool) → (rest ≡ [] → more ≡ []) → SendsBits g ((open_from serial from false (s.packets) ++ packet_spelling (marks_of serial sequence false last (frame_packet number packet)) packet) ++ more) old new r)
      → SendsPackets g serial from p a old new r
  packets_end number sequence old mid new packet last rest r few small s is all end each_rest least_rest sends =
      let b = p.block_size in
      let q = frame_packet number packet in
      let t = bits_of packet in
      let front = snoc s.frames t in
      let after : List Placed = packed b total (suc number) rest in
      let so_far = open_from serial from false s.packets in
      let here = packet_spelling (marks_of serial sequence false last q) packet in
      let tail = flat_map page_spelling (pages_from serial (sequence_after sequence packet) false after) in
      let position : min total (b * suc number) < 2 ^ 64 = position_fits total (b * suc number) few in
      let long : length front ≡ number + 1 = length-snoc s.frames t ∙ ap (λ n. n + 1) s.many in
      let count : suc number + length rest ≡ blocks_in b total = ap (λ n. n + length rest) (one_more number) ∙ all in
      let whole = spelled_whole p a rest (number + 1) each_rest in
      let none : rest ≡ [] → tail ≡ [] = λ e. ap (λ (l : List (List Bool)). flat_map page_spelling (pages_from serial (sequence_after sequence packet) false (packed b total (suc number) l))) e in
      let pages : flat_map page_spelling (pages_from serial from false (s.packets ++ q ∷ after)) ≡ (so_far ++ here) ++ tail =
      after_open serial from false s.packets q after
      ∙ ap (λ f. so_far ++ flat_map page_spelling (pages_from serial (number_after from s.packets) f (q ∷ after))) (later s.packets)
      ∙ ap (λ k. so_far ++ flat_map page_spelling (pages_from serial k false (q ∷ after))) (sym s.next)
      ∙ ap (λ (k : List Bool). so_far ++ k) (first_packet serial sequence false q after)
      ∙ ap (λ l. so_far ++ (packet_spelling (marks_of serial sequence false l q) packet ++ tail)) (same_end b total (suc number) rest ∙ end)
      ∙ sym (append_assoc so_far here tail) in
      let each_front = each_more (λ i k. SpellsFrame a (frame_of b a i) k) s.frames t s.each (subst (λ n. SpellsFrame a (frame_of b a n) t) (sym s.many) is.frame) in
      let least_front = each_more (λ i k. SpellsLeastByPlane (tried p i) a (frame_of b a i) k) s.frames t s.each_least (subst (λ n. SpellsLeastByPlane (tried p n) a (frame_of b a n) t) (sym s.many) is.least) in
      record {
        frames = front ++ rest;
        are = record {
          many = length-append front rest ∙ ap (λ n. n + length rest) long ∙ all;
          each = each_append (λ i k. SpellsFrame a (frame_of b a i) k) front rest each_front (λ j h. subst (λ n. SpellsFrame a (frame_of b a (n + j)) (nth rest j)) (sym long) (each_rest j h));
        };
        are_least = each_append (λ i k. SpellsLeastByPlane (tried p i) a (frame_of b a i) k) front rest least_front (λ j h. subst (λ n. SpellsLeastByPlane (tried p (n + j)) a (frame_of b a (n + j)) (nth rest j)) (sym long) (least_rest j h));
        packets = s.packets ++ q ∷ after;
        texts = texts_append s.packets (q ∷ after) ∙ ap (λ (l : List (List Bool)). l ++ (t ∷ texts_of after)) s.texts ∙ ap (λ (l : List (List Bool)). s.frames ++ (t ∷ l)) (texts_packed b total (suc number) rest whole)
            ∙ sym (append_assoc s.frames (t ∷ []) rest);
        kinds = kinds_append s.packets (q ∷ after) ∙ ap (λ (l : List PacketKind). l ++ (q.kind ∷ kinds_in after)) s.kinds ∙ sym (append_assoc (frames_to b total number) (q.kind ∷ []) (kinds_in after))
            ∙ kinds_packed b total (suc number) rest ∙ ap (frames_to b total) count;
        good = All-append IsPlaced s.packets (q ∷ after) s.good (All-cons IsPlaced q after (record { bytes = small; position = position }) (good_packed b total (suc number) rest few whole));
        sends = subst (λ k. SendsBits g k old new r) (sym pages) (sends tail none);
      }

  -- the last one was sent
  pub packets_sent : {X : Type 0} (number sequence : ℕ) (old mid new : S) (packet : List ℕ) (x : X) → total < 2 ^ 64 → AreBytes packet → SentPackets g serial from p a number sequence old mid → IsSpelled p a number (bits_of packet)
      → number + 1 ≡ blocks_in p.block_size total → SendsBits {E = Why} g (packet_spelling (marks_of serial sequence false true (frame_packet number packet)) packet) mid new (Ok x)
      → SendsPackets {E = Why} g serial from p a old new (Ok x)
  packets_sent number sequence old mid new packet x few small s is all sends =
      packets_end number sequence old mid new packet true [] (Ok x) few small s is (no_more (number + 1) ∙ all) refl (λ j h. absurd (no_index j h)) (λ j h. absurd (no_index j h))
      (λ more none. let here = packet_spelling (marks_of serial sequence false true (frame_packet number packet)) packet in
      subst (λ k. SendsBits {E = Why} g k old new (Ok x)) (sym (ap (λ (l : List Bool). (open_from serial from false s.packets ++ here) ++ l) (none refl) ∙ append-nil (open_from serial from false s.packets ++ here))) (bits_then g (Ok x) s.sends sends))

  -- one was not sent whole, and others would stand after it
  pub packets_fail : {X Y : Type 0} (number sequence : ℕ) (old mid new : S) (packet : List ℕ) (last : Bool) (others : List (List Bool)) (e f : Why) → total < 2 ^ 64 → AreBytes packet → SentPackets g serial from p a number sequence old mid
      → IsSpelled p a number (bits_of packet) → number < blocks_in p.block_size total → nat_eq (number + 1) (blocks_in p.block_size total) ≡ last → AreFrames p a others → AreLeastFrames p a others
      → SendsBits {X = X} g (packet_spelling (marks_of serial sequence false last (frame_packet number packet)) packet) mid new (Err e) → SendsPackets {X = Y} g serial from p a old new (Err f)
  packets_fail number sequence old mid new packet last others e f few small s is lt test are least sends =
      let rest = drop (number + 1) others in
      let many : number + 1 + length rest ≡ blocks_in p.block_size total = drop_rest number (length rest) (length others) (blocks_in p.block_size total) (length-drop (number + 1) others) are.many lt in
      packets_end number sequence old mid new packet last rest (Err f) few small s is many (ends_with rest (number + 1) (blocks_in p.block_size total) many ∙ test)
      (each_drop (λ i k. SpellsFrame a (frame_of p.block_size a i) k) (number + 1) others are.each) (each_drop (λ i k. SpellsLeastByPlane (tried p i) a (frame_of p.block_size a i) k) (number + 1) others least)
      (λ more none. bits_fault g more (bits_then g (Err e) s.sends sends))

-- ---- where the loop stands

pub last_is : (b total n end : ℕ) → 16 ≤ b → n < blocks_in b total → end ≡ min total (b * suc n) → nat_eq (n + 1) (blocks_in b total) ≡ nat_eq end total
last_is b total n end some lt at = elim (cases_lt (suc n) (blocks_in b total)) [
  | inl k ↦
      let more : b * suc n < total = least_part b total (suc n) some k in
      let left : nat_eq (n + 1) (blocks_in b total) ≡ false = differ (n + 1) (blocks_in b total) (omega (arith, k)) in
      left ∙ sym (differ end total (omega (arith, at, more)))
  | inr k ↦
      let all : total ≤ b * blocks_in b total = all_parts b total some in
      let is : suc n ≡ blocks_in b total = omega (arith, k, lt) in
      let over : total ≤ b * suc n = subst (λ m. total ≤ b * m) (sym is) all in
      agree (n + 1) (blocks_in b total) (omega (arith, is)) ∙ sym (agree end total (omega (arith, at, over)))
]

-- ---- how long pages are

page_bits : (a b c d e f g h lacing body : ℕ) → a ≡ 48 → b ≡ 64 → c ≡ 32 → d ≡ 32 → e ≡ 32 → f ≡ 8 → g ≡ 8 * lacing → h ≡ 8 * body → lacing ≤ 255 → body ≤ 65025 → a + (b + (c + (d + (e + (f + (g + (h + 0))))))) ≤ 8 * 65307
page_bits a b c d e f g h lacing body k l m n o q r s few small = rw (k, l, m, n, o, q, r, s) (omega (arith, few, small))

page_long : (p : Page) → length p.lacing ≤ 255 → length p.body ≤ 65025 → length (page_spelling p) ≤ 8 * 65307
unfolding page_spelling
page_long p few small =
    let parts =
    bits_of (0x4F ∷ 0x67 ∷ 0x67 ∷ 0x53 ∷ 0 ∷ p.head.flags ∷ []) ∷ bits_of (to_le_bytes w64 p.head.granule) ∷ bits_of (to_le_bytes w32 p.head.serial) ∷
    bits_of (to_le_bytes w32 p.head.sequence) ∷ bits_of (to_le_bytes w32 p.head.sum) ∷ bits_of (length p.lacing ∷ []) ∷ bits_of p.lacing ∷ bits_of p.body ∷ [] in
    subst (λ n. n ≤ 8 * 65307) (sym (length-joined parts)) (page_bits _ _ _ _ _ _ _ _ (length p.lacing) (length p.body) (length-bits_of (0x4F ∷ 0x67 ∷ 0x67 ∷ 0x53 ∷ 0 ∷ p.head.flags ∷ [])) (length-bits_of (to_le_bytes w64 p.head.granule)) (length-bits_of (to_le_bytes w32 p.head.serial))
    (length-bits_of (to_le_bytes w32 p.head.sequence)) (length-bits_of (to_le_bytes w32 p.head.sum)) (length-bits_of (length p.lacing ∷ [])) (length-bits_of p.lacing) (length-bits_of p.body) few small)

each_long : (f : ℕ → List Bool) (n : ℕ) → ((k : ℕ) → length (f k) ≤ n) → (ks : List ℕ) → length (flat_map f ks) ≤ n * length ks
each_long f n all [] = omega arith
each_long f n all (k ∷ ks) = omega (arith, ap (λ (t : List Bool). length t) (flat_map-cons f k ks), length-append (f k) (flat_map f ks), all k, each_long f n all ks, mul-suc n (length ks))

range_long : (from n : ℕ) → length (range_with_len from n) ≡ n
range_long from zero = refl
range_long from (suc n) = ap suc (range_long (from + 1) n)

-- the pages of a packet of n bytes
pub pages_long : (m : PacketMarks) (packet : List ℕ) → length (packet_spelling m packet) ≤ 8 * (65307 * (length packet / 65025 + 1))
unfolding packet_spelling
pages_long m packet =
    let one : (k : ℕ) → length (page_spelling (page_at m packet k)) ≤ 8 * 65307 = λ k.
    page_long (page_at m packet k) (omega (arith, length-take 255 (drop (255 * k) (lacing_of packet)))) (omega (arith, length-take 65025 (drop (65025 * k) packet))) in
    omega (arith, each_long (λ k. page_spelling (page_at m packet k)) (8 * 65307) one (range_with_len 0 (length packet / 65025 + 1)), range_long 0 (length packet / 65025 + 1))

-- what is sent of a frame is no longer than the longest that was counted
pub spelled_long : (p : Cut) (a : Sound) (n least greatest : ℕ) (packet : List ℕ) (points : List SeekPoint) → n < blocks_in p.block_size (samples_each a.channels) → AreCounted p a least greatest points → IsSpelled p a n (bits_of packet)
    → length packet ≤ greatest
spelled_long p a n least greatest packet points lt e is =
    let at : n < length e.frames = omega (arith, lt, e.are.many) in
    let same = as_long (tried p n) a (frame_of p.block_size a n) (bits_of packet) (nth e.frames n) is.least (e.are_least n at) in
    let within = e.sizes.within n at in
    omega (arith, same, within.1, length-bits_of packet)
