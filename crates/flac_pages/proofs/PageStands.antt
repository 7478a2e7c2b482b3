-- A packet's pages may stand one after another.
use Rattle.std.proofs.Common.{◌≡◌, ℕ, zero, suc, ◌+◌, ◌*◌, ◌/◌, ◌%◌, ◌^◌, ◌<◌, ◌≤◌, Bool, true, false, not, cond, ◌&&◌, ◌||◌, nat_eq, bit_xor, List, [], ◌∷◌, ◌++◌, length, take, drop, replicate, Option, Some, None, refl, sym, ap, ◌∙◌, arith, length-append}
use Rattle.std.specs.Int.{bit_at}
use Rattle.std.specs.List.{sum}
use Rattle.std.proofs.lemmas.Bool.Decides.{nat_tests}
use Rattle.std.proofs.lemmas.List.{length-take-le, length-drop, length-replicate}
use Rattle.std.proofs.lemmas.Nat.{xor_of_32}
use Rattle.flac_bits.specs.Check.{remainder, power}
use Rattle.flac_bits.specs.Forms.{AreBytes}
use Rattle.flac_bits.specs.Meaning.{AllKept}
use Rattle.flac_pages.specs.declared.page.Before.{Before}
use Rattle.flac_pages.specs.declared.writing.PacketKind.{PacketKind}
use Rattle.flac_pages.specs.declared.writing.PacketKind.TheVariants.{Header, Frame}
use Rattle.flac_pages.specs.declared.writing.PacketMarks.{PacketMarks}
use Rattle.flac_pages.specs.Page.{Page, page_spelling, page_sum, with_sum, end_rules, goes_on_after, went_on, after_page, is_first, is_continued, is_last}
use Rattle.flac_pages.specs.Packets.{lacing_of}
use Rattle.flac_pages.specs.Written.{IsPage, granule_at, summed, page_at}
use Rattle.flac_pages.proofs.Stepping.{sum_more}
use Rattle.flac_pages.proofs.Cut.{full_lacing, last_lacing, last_body, rest_short}

-- ---- a remainder of 32 bits

choice_small : (b : Bool) (x y : ℕ) → x < 2 ^ 32 → y < 2 ^ 32 → cond b x y < 2 ^ 32
choice_small true x y h k = h
choice_small false x y h k = k

power_small : (j : ℕ) → power 32 79764919 j < 2 ^ 32
power_small zero = omega arith
power_small (suc j) =
    let c = power 32 79764919 j in
    let low : 2 * c % 2 ^ 32 < 2 ^ 32 = omega arith in
    choice_small (nat_eq (bit_at c 31) 1) (bit_xor (2 * c % 2 ^ 32) 79764919) (2 * c % 2 ^ 32) (xor_of_32 (2 * c % 2 ^ 32) 79764919 low (omega arith)) low

check_small : (bs : List Bool) → remainder 32 79764919 bs < 2 ^ 32
check_small [] = omega arith
check_small (b ∷ bs) = xor_of_32 (cond b (power 32 79764919 (length bs)) 0) (remainder 32 79764919 bs) (choice_small b (power 32 79764919 (length bs)) 0 (power_small (length bs)) (omega arith)) (check_small bs)

sum_small : (p : Page) → page_sum p < 2 ^ 32
unfolding page_sum
sum_small p = check_small (page_spelling (with_sum 0 p))

-- a page states its own sum
sum_stated : (p : Page) → page_sum (summed p) ≡ page_sum p
unfolding page_sum
sum_stated p = refl

-- ---- lists of bytes

pub bytes_take : (n : ℕ) (xs : List ℕ) → AreBytes xs → AreBytes (take n xs)
bytes_take zero xs h = tt
bytes_take (suc n) [] h = tt
bytes_take (suc n) (x ∷ xs) h = (h.0, bytes_take n xs h.1)

pub bytes_drop : (n : ℕ) (xs : List ℕ) → AreBytes xs → AreBytes (drop n xs)
bytes_drop zero xs h = h
bytes_drop (suc n) [] h = tt
bytes_drop (suc n) (x ∷ xs) h = bytes_drop n xs h.1

bytes_full : (n v : ℕ) → v < 2 ^ 8 → AreBytes (replicate n 255 ++ v ∷ [])
bytes_full zero v h = (h, tt)
bytes_full (suc n) v h = (omega arith, bytes_full n v h)

all_full : (n : ℕ) → AreBytes (replicate n 255)
all_full zero = tt
all_full (suc n) = (omega arith, all_full n)

sum_full : (n : ℕ) → sum (replicate n 255) ≡ 255 * n
sum_full zero = refl
sum_full (suc n) = let e : 255 + 255 * n ≡ 255 * suc n = omega arith in sum_more 255 (replicate n 255) ∙ ap (λ k. 255 + k) (sum_full n) ∙ e

sum_of : (n v : ℕ) → sum (replicate n 255 ++ v ∷ []) ≡ 255 * n + v
sum_of zero v = omega arith
sum_of (suc n) v = let e : 255 + (255 * n + v) ≡ 255 * suc n + v = omega arith in sum_more 255 (replicate n 255 ++ v ∷ []) ∙ ap (λ k. 255 + k) (sum_of n v) ∙ e

goes_on : (g : Bool) (n : ℕ) → goes_on_after g (replicate (suc n) 255) ≡ true
goes_on g zero = refl
goes_on g (suc n) = goes_on true n

ends_there : (g : Bool) (n v : ℕ) → v < 255 → goes_on_after g (replicate n 255 ++ v ∷ []) ≡ false
ends_there g zero v h = grind (arith, nat_tests, h)
ends_there g (suc n) v h = ends_there true n v h

-- ---- the marks

first_flag : (a b c : Bool) → is_first (cond a (cond b 2 0) 1 + cond c 4 0) ≡ (a && b)
first_flag true true true = refl
first_flag true true false = refl
first_flag true false true = refl
first_flag true false false = refl
first_flag false b true = refl
first_flag false b false = refl

continued_flag : (a b c : Bool) → is_continued (cond a (cond b 2 0) 1 + cond c 4 0) ≡ not a
continued_flag true true true = refl
continued_flag true true false = refl
continued_flag true false true = refl
continued_flag true false false = refl
continued_flag false b true = refl
continued_flag false b false = refl

pub last_flag : (a b c : Bool) → is_last (cond a (cond b 2 0) 1 + cond c 4 0) ≡ c
last_flag true true true = refl
last_flag true true false = refl
last_flag true false true = refl
last_flag true false false = refl
last_flag false b true = refl
last_flag false b false = refl

flags_small : (a b c : Bool) → cond a (cond b 2 0) 1 + cond c 4 0 < 2 ^ 8
flags_small true true true = omega arith
flags_small true true false = omega arith
flags_small true false true = omega arith
flags_small true false false = omega arith
flags_small false b true = omega arith
flags_small false b false = omega arith

granule_small : (kind : PacketKind) (ends : Bool) → granule_at kind true < 2 ^ 64 → granule_at kind ends < 2 ^ 64
granule_small Header ends h = h
granule_small (Frame end) true h = h
granule_small (Frame end) false h = omega arith

-- ---- what a packet's page has

-- lengths and bytes of one page
record IsFilled (lacing body : List ℕ) : Type 0 where
  few : length lacing < 2 ^ 8
  lacing_bytes : AreBytes lacing
  whole : length body ≡ sum lacing
  body_bytes : AreBytes body

full_filled : (packet : List ℕ) (k : ℕ) → AreBytes packet → k < length packet / 65025 → IsFilled (take 255 (drop (255 * k) (lacing_of packet))) (take 65025 (drop (65025 * k) packet))
full_filled packet k small lt =
    let room : 65025 ≤ length (drop (65025 * k) packet) = omega (arith, lt, length-drop (65025 * k) packet) in
    rw (full_lacing packet k lt) (record {
      few = omega (arith, length-replicate {A = ℕ} 255 255);
      lacing_bytes = all_full 255;
      whole = length-take-le 65025 (drop (65025 * k) packet) room ∙ sym (sum_full 255);
      body_bytes = bytes_take 65025 (drop (65025 * k) packet) (bytes_drop (65025 * k) packet small);
    })

rest_filled : (rest : List ℕ) → length rest < 65025 → AreBytes rest → IsFilled (lacing_of rest) rest
unfolding lacing_of
rest_filled rest short small = record {
  few = omega (arith, short, length-append (replicate (length rest / 255) 255) ((length rest % 255) ∷ []), length-replicate {A = ℕ} (length rest / 255) 255);
  lacing_bytes = bytes_full (length rest / 255) (length rest % 255) (omega arith);
  whole = let s = sum_of (length rest / 255) (length rest % 255) in omega (arith, s);
  body_bytes = small;
}

last_filled : (packet : List ℕ) → AreBytes packet → IsFilled (take 255 (drop (255 * (length packet / 65025)) (lacing_of packet))) (take 65025 (drop (65025 * (length packet / 65025)) packet))
last_filled packet small =
    rw (last_lacing packet, last_body packet) (rest_filled (drop (65025 * (length packet / 65025)) packet) (rest_short packet) (bytes_drop (65025 * (length packet / 65025)) packet small))

filled : (packet : List ℕ) (k n : ℕ) → AreBytes packet → k + n ≡ length packet / 65025 → IsFilled (take 255 (drop (255 * k) (lacing_of packet))) (take 65025 (drop (65025 * k) packet))
filled packet k zero small e = let is : k ≡ length packet / 65025 = omega (arith, e) in rw is (last_filled packet small)
filled packet k (suc n) small e = full_filled packet k small (omega (arith, e))

-- ---- a page may stand where its rules are kept

-- what a packet needs to be written in pages
pub record MayBeWritten (m : PacketMarks) (packet : List ℕ) : Type 0 where
  pub position : granule_at m.kind true < 2 ^ 64
  pub stream : m.serial < 2 ^ 32
  pub bytes : AreBytes packet

pub stands : (m : PacketMarks) (packet : List ℕ) (k n : ℕ) (before : Option Before) → MayBeWritten m packet → k + n ≡ length packet / 65025 → AllKept (end_rules before (page_at m packet k)) → IsPage before (page_at m packet k)
stands m packet k n before may e kept =
    let last : ℕ = length packet / 65025 in
    let f = filled packet k n may.bytes e in
    record {
      flags = flags_small (nat_eq k 0) m.first (nat_eq k last && m.last);
      granule = granule_small m.kind (nat_eq k last) may.position;
      serial = may.stream;
      sequence = omega arith;
      stated = sum_small _;
      few = f.few;
      lacing = f.lacing_bytes;
      whole = f.whole;
      body = f.body_bytes;
      rules = kept;
    }

-- ---- the rules

same : (a : ℕ) → not (nat_eq a a) ≡ false
same a = grind (arith, nat_tests)

equal : (a b : ℕ) → a ≡ b → not (nat_eq a b) ≡ false
equal a b e = grind (arith, nat_tests, e)

-- what the page before left, where the page of a number is due
pub record Leaves (serial sequence : ℕ) (goes : Bool) (b : Before) : Type 0 where
  pub serial_is : b.serial ≡ serial
  pub number : (b.sequence + 1) % 2 ^ 32 ≡ sequence
  pub going : b.goes_on ≡ goes

-- a page after another keeps the rules
after_kept : (b : Before) (p : Page) → p.head.serial ≡ b.serial → p.head.sequence ≡ (b.sequence + 1) % 2 ^ 32 → is_first p.head.flags ≡ false → is_continued p.head.flags ≡ b.goes_on → AllKept (end_rules (Some b) (summed p))
unfolding end_rules
after_kept b p serial sequence first continued = (
  equal (page_sum p) (page_sum (summed p)) (sym (sum_stated p)),
  (
    equal p.head.serial b.serial serial,
    (ordered (is_first p.head.flags) (not (nat_eq p.head.sequence ((b.sequence + 1) % 2 ^ 32))) b.goes_on (is_continued p.head.flags) first (equal p.head.sequence ((b.sequence + 1) % 2 ^ 32) sequence) continued, (refl, tt)),
  ),
)
  where
    ordered : (a s g c : Bool) → a ≡ false → s ≡ false → c ≡ g → (a || (s || cond g (not c) c)) ≡ false
    ordered true s g c h k e = absurd cc
    ordered false true g c h k e = absurd cc
    ordered false false true true h k e = refl
    ordered false false true false h k e = absurd cc
    ordered false false false true h k e = absurd cc
    ordered false false false false h k e = refl

-- the first page of all, of the packet of 51 bytes, keeps them
start_kept : (p : Page) → is_continued p.head.flags ≡ false → is_first p.head.flags ≡ true → length p.lacing ≡ 1 → sum p.lacing ≡ 51 → AllKept (end_rules None (summed p))
unfolding end_rules
start_kept p continued first one long = (equal (page_sum p) (page_sum (summed p)) (sym (sum_stated p)), (refl, (continued, (rw (first, one, long) refl, tt))))

-- ---- a packet's pages after one another

tests_same : (a b : ℕ) → a ≡ b → nat_eq a b ≡ true
tests_same a b e = grind (arith, nat_tests, e)

tests_other : (a b : ℕ) → a < b → nat_eq a b ≡ false
tests_other a b h = grind (arith, nat_tests, h)

not_zero : (k : ℕ) → nat_eq (suc k) 0 ≡ false
not_zero k = grind (arith, nat_tests)

-- the first page, after another packet or where a stream begins
pub first_after_packet : (m : PacketMarks) (packet : List ℕ) (b : Before) → m.sequence < 2 ^ 32 → m.first ≡ false → Leaves m.serial m.sequence false b → AllKept (end_rules (Some b) (page_at m packet 0))
first_after_packet m packet b small first leaves =
    let last : ℕ = length packet / 65025 in
    let number : (m.sequence + 0) % 2 ^ 32 ≡ (b.sequence + 1) % 2 ^ 32 = omega (arith, small, leaves.number) in
    after_kept b _ (sym leaves.serial_is) number (first_flag true m.first (nat_eq 0 last && m.last) ∙ first) (continued_flag true m.first (nat_eq 0 last && m.last) ∙ sym leaves.going)

one_segment : (packet : List ℕ) → length packet ≡ 51 → take 255 (drop (255 * 0) (lacing_of packet)) ≡ 51 ∷ []
unfolding lacing_of
one_segment packet long = rw long refl

pub first_starts : (m : PacketMarks) (packet : List ℕ) → m.first ≡ true → length packet ≡ 51 → AllKept (end_rules None (page_at m packet 0))
first_starts m packet first long =
    let last : ℕ = length packet / 65025 in
    start_kept _ (continued_flag true m.first (nat_eq 0 last && m.last)) (first_flag true m.first (nat_eq 0 last && m.last) ∙ first) (ap length (one_segment packet long)) (ap sum (one_segment packet long))

-- a further page
pub further_after : (m : PacketMarks) (packet : List ℕ) (k : ℕ) (b : Before) → Leaves m.serial ((m.sequence + suc k) % 2 ^ 32) true b → AllKept (end_rules (Some b) (page_at m packet (suc k)))
further_after m packet k b leaves =
    let last : ℕ = length packet / 65025 in
    let ends = nat_eq (suc k) last && m.last in
    after_kept b _ (sym leaves.serial_is) (sym leaves.number)
    (ap (λ a. is_first (cond a (cond m.first 2 0) 1 + cond ends 4 0)) (not_zero k) ∙ first_flag false m.first ends)
    (ap (λ a. is_continued (cond a (cond m.first 2 0) 1 + cond ends 4 0)) (not_zero k) ∙ continued_flag false m.first ends ∙ sym leaves.going)

-- after each page but the last the packet goes on
pub left_open : (m : PacketMarks) (packet : List ℕ) (k : ℕ) (before : Option Before) → k < length packet / 65025 → Leaves m.serial ((m.sequence + (k + 1)) % 2 ^ 32) true (after_page before (page_at m packet k))
left_open m packet k before lt = record {
  serial_is = refl;
  number = omega arith;
  going = ap (goes_on_after (went_on before)) (full_lacing packet k lt) ∙ goes_on (went_on before) 254;
}

lacing_ends : (g : Bool) (rest : List ℕ) → goes_on_after g (lacing_of rest) ≡ false
unfolding lacing_of
lacing_ends g rest = ends_there g (length rest / 255) (length rest % 255) (omega arith)

-- after the last one it does not
pub left_ended : (m : PacketMarks) (packet : List ℕ) (k : ℕ) (before : Option Before) → k ≡ length packet / 65025 → Leaves m.serial ((m.sequence + (length packet / 65025 + 1)) % 2 ^ 32) false (after_page before (page_at m packet k))
left_ended m packet k before is = record {
  serial_is = refl;
  number = omega (arith, is);
  going = rw is (ap (goes_on_after (went_on before)) (last_lacing packet) ∙ lacing_ends (went_on before) (drop (65025 * (length packet / 65025)) packet));
}

-- whether a page is marked last
pub marked_more : (m : PacketMarks) (packet : List ℕ) (k : ℕ) → k < length packet / 65025 → is_last (page_at m packet k).head.flags ≡ false
marked_more m packet k lt = last_flag (nat_eq k 0) m.first (nat_eq k (length packet / 65025) && m.last) ∙ ap (λ b. b && m.last) (tests_other k (length packet / 65025) lt)

pub marked_last : (m : PacketMarks) (packet : List ℕ) (k : ℕ) → k ≡ length packet / 65025 → is_last (page_at m packet k).head.flags ≡ m.last
marked_last m packet k is = last_flag (nat_eq k 0) m.first (nat_eq k (length packet / 65025) && m.last) ∙ ap (λ b. b && m.last) (tests_same k (length packet / 65025) is)
