-- The bits of the array that passed, as whole bytes and a part of one.
use Rattle.std.proofs.Common.{◌≡◌, ℕ, suc, ◌+◌, ◌-◌, ◌*◌, ◌/◌, ◌%◌, ◌^◌, ◌<◌, ◌≤◌, Bool, List, [], ◌++◌, length, drop, take, get_or, min, refl, sym, ap, ◌∙◌, arith, append_assoc}
use Rattle.std.proofs.lemmas.List.{drop-take, length-take, length-drop, length-append, take_at, take-append-drop, take-append-le, get_or-drop, get_or-take, append_cancel_left, drop-drop}
use Rattle.std.proofs.Math.Seq.{drop-cons}
use Rattle.std.specs.List.{slice_range}
use Rattle.flac_bits.specs.Bits.{unsigned, bits_of}
use Rattle.flac_bits.specs.State.{Mark, past}
use Rattle.flac_bits.specs.Check.{fed}
use Rattle.flac_bits.specs.Store.{Store, Fence, passed}
use Rattle.flac_bits.specs.declared.why.Why.TheVariants.{Truncated}
use Rattle.flac_bits.proofs.Check.{fed-append}
use Rattle.flac_bits.proofs.Meaning.{past-short}
use Rattle.flac_bits.proofs.Marks.{past-unread, past-bytes}
use Rattle.flac_bits.proofs.Words.{split, length-unsigned}
use Rattle.flac_bits.proofs.Holding.{length-bits_of, bits_of-append, passed_is}

abbrev most : ℕ
most = 2 ^ 64 - 1

abbrev Tie : List ℕ → List Bool → Type 0
Tie xs word = passed xs word ++ word ≡ bits_of xs

pub held_fits : (xs : List ℕ) (word : List Bool) → Tie xs word → length word ≤ 8 * length xs
held_fits xs word tie = omega (arith, ap (λ (bs : List Bool). length bs) tie, length-append (passed xs word) word, length-bits_of xs)

passed_long : (xs : List ℕ) (word : List Bool) → Tie xs word → length (passed xs word) ≡ 8 * length xs - length word
passed_long xs word tie = omega (arith, ap (λ (bs : List Bool). length bs) tie, length-append (passed xs word) word, length-bits_of xs)

pub unread_is : (xs : List ℕ) (word : List Bool) (m : Mark) → Tie xs word → m.unread ≡ 0 → length word % 8 ≡ (past (passed xs word) m).unread
unread_is xs word m tie z = omega (arith, past-unread (passed xs word) 0 m z (omega arith), passed_long xs word tie, held_fits xs word tie)

pub bytes_are : (xs : List ℕ) (word : List Bool) (n : ℕ) (m : Mark) → Tie xs word → m.unread ≡ 0 → m.bytes ≡ n → n ≤ most → (past (passed xs word) m).bytes ≡ min (n + (length xs - length word / 8)) most
bytes_are xs word n m tie z e le = omega (arith, past-bytes (passed xs word) 0 n m z (omega arith) e le, passed_long xs word tie, held_fits xs word tie)

-- whole bytes passed
pub whole_passed : (xs : List ℕ) (word : List Bool) (a : ℕ) → a + (length word + 7) / 8 ≡ length xs → length word % 8 ≡ 0 → passed xs word ≡ bits_of (take a xs)
whole_passed xs word a e z =
    let parts : bits_of xs ≡ bits_of (take a xs) ++ bits_of (drop a xs) = ap bits_of (sym (take-append-drop a xs)) ∙ bits_of-append (take a xs) (drop a xs) in
    let k : length (bits_of (take a xs)) ≡ 8 * length xs - length word = omega (arith, length-bits_of (take a xs), length-take a xs, e, z) in
    ap (take (8 * length xs - length word)) parts ∙ take_at (bits_of (take a xs)) (bits_of (drop a xs)) (8 * length xs - length word) k

-- and a part of one
pub part_passed : (xs : List ℕ) (word : List Bool) (a r : ℕ) → a + (length word + 7) / 8 ≡ length xs → length word % 8 ≡ r → 0 < r → passed xs word ≡ bits_of (take a xs) ++ unsigned (8 - r) (get_or xs a 0 / 2 ^ r)
part_passed xs word a r e z pos =
    let b = get_or xs a 0 in
    let n : 8 - r + r ≡ 8 = omega arith in
    let byte : unsigned 8 b ≡ unsigned (8 - r) (b / 2 ^ r) ++ unsigned r b = ap (λ i. unsigned i b) (sym n) ∙ split (8 - r) r b in
    let rest : bits_of (drop a xs) ≡ unsigned (8 - r) (b / 2 ^ r) ++ (unsigned r b ++ bits_of (drop (suc a) xs)) =
    ap bits_of (drop-cons xs a 0 (omega arith)) ∙ ap (λ bs. bs ++ bits_of (drop (suc a) xs)) byte ∙ append_assoc (unsigned (8 - r) (b / 2 ^ r)) (unsigned r b) (bits_of (drop (suc a) xs)) in
    let front = bits_of (take a xs) ++ unsigned (8 - r) (b / 2 ^ r) in
    let parts : bits_of xs ≡ front ++ (unsigned r b ++ bits_of (drop (suc a) xs)) =
    ap bits_of (sym (take-append-drop a xs)) ∙ bits_of-append (take a xs) (drop a xs) ∙ ap (λ bs. bits_of (take a xs) ++ bs) rest ∙ sym (append_assoc (bits_of (take a xs)) (unsigned (8 - r) (b / 2 ^ r)) (unsigned r b ++ bits_of (drop (suc a) xs))) in
    let k : length front ≡ 8 * length xs - length word = omega (arith, length-append (bits_of (take a xs)) (unsigned (8 - r) (b / 2 ^ r)), length-unsigned (8 - r) (b / 2 ^ r), length-bits_of (take a xs), length-take a xs, e, z) in
    ap (take (8 * length xs - length word)) parts ∙ take_at front (unsigned r b ++ bits_of (drop (suc a) xs)) (8 * length xs - length word) k

-- the same of the array
pub begun_long : (bytes : List ℕ) (from place : ℕ) → from ≤ place → place ≤ length bytes → length (drop from (take place bytes)) ≡ place - from
begun_long bytes from place le lt = omega (arith, length-drop from (take place bytes), length-take place bytes)

pub slice_is : (bytes : List ℕ) (from place whole : ℕ) → from ≤ whole → whole ≤ place → place ≤ length bytes → slice_range bytes from whole ≡ take (whole - from) (drop from (take place bytes))
slice_is bytes from place whole le lt in_ =
    let ys = drop from bytes in
    let n : from + (place - from) ≡ place = omega arith in
    let xs_is : drop from (take place bytes) ≡ take (place - from) ys = ap (λ k. drop from (take k bytes)) (sym n) ∙ drop-take from (place - from) bytes in
    ap (take (whole - from)) (sym (take-append-drop (place - from) ys)) ∙ take-append-le (whole - from) (take (place - from) ys) (drop (place - from) ys) (omega (arith, length-take (place - from) ys, length-drop from bytes)) ∙ ap (take (whole - from)) (sym xs_is)

pub checked_whole : (w g c : ℕ) (bytes : List ℕ) (from place whole : ℕ) (word : List Bool) → from ≤ whole → whole + (length word + 7) / 8 ≡ place → place ≤ length bytes → length word % 8 ≡ 0
    → fed w g c (bits_of (slice_range bytes from whole)) ≡ fed w g c (passed (drop from (take place bytes)) word)
checked_whole w g c bytes from place whole word le e inside z =
    let xs = drop from (take place bytes) in
    ap (λ ys. fed w g c (bits_of ys)) (slice_is bytes from place whole le (omega arith) inside)
    ∙ ap (fed w g c) (sym (whole_passed xs word (whole - from) (omega (arith, begun_long bytes from place (omega arith) inside)) z))

pub checked_part : (w g c : ℕ) (bytes : List ℕ) (from place whole r : ℕ) (word : List Bool) → from ≤ whole → whole + (length word + 7) / 8 ≡ place → place ≤ length bytes → length word % 8 ≡ r → 0 < r
    → fed w g (fed w g c (bits_of (slice_range bytes from whole))) (unsigned (8 - r) (get_or bytes whole 0 / 2 ^ r)) ≡ fed w g c (passed (drop from (take place bytes)) word)
checked_part w g c bytes from place whole r word le e inside z pos =
    let xs = drop from (take place bytes) in
    let n : from + (whole - from) ≡ whole = omega arith in
    let byte : get_or xs (whole - from) 0 ≡ get_or bytes whole 0 = get_or-drop from (take place bytes) (whole - from) 0 ∙ ap (λ k. get_or (take place bytes) k 0) n ∙ get_or-take place bytes whole 0 (omega arith) in
    ap (λ ys. fed w g (fed w g c (bits_of ys)) (unsigned (8 - r) (get_or bytes whole 0 / 2 ^ r))) (slice_is bytes from place whole le (omega arith) inside)
    ∙ sym (fed-append w g c (bits_of (take (whole - from) xs)) (unsigned (8 - r) (get_or bytes whole 0 / 2 ^ r)))
    ∙ ap (λ b. fed w g c (bits_of (take (whole - from) xs) ++ unsigned (8 - r) (b / 2 ^ r))) (sym byte)
    ∙ ap (fed w g c) (sym (part_passed xs word (whole - from) r (omega (arith, begun_long bytes from place (omega arith) inside)) z pos))

-- the word alone is what the array still holds of the bytes begun
pub restart_word : (bytes : List ℕ) (from place q : ℕ) (word : List Bool) → from ≤ place → place ≤ length bytes → Tie (drop from (take place bytes)) word → length word % 8 ≡ 0 → q ≡ length word / 8
    → word ≡ bits_of (drop (place - q) (take place bytes))
restart_word bytes from place q word le inside tie z e =
    let xs = drop from (take place bytes) in
    let long = begun_long bytes from place le inside in
    let fits = held_fits xs word tie in
    let a = length xs - q in
    let front : passed xs word ≡ bits_of (take a xs) = whole_passed xs word a (omega (arith, fits, z, e)) z in
    let both : bits_of (take a xs) ++ word ≡ bits_of (take a xs) ++ bits_of (drop a xs) =
    ap (λ bs. bs ++ word) (sym front) ∙ tie ∙ ap bits_of (sym (take-append-drop a xs)) ∙ bits_of-append (take a xs) (drop a xs) in
    let n : from + a ≡ place - q = omega (arith, long, fits, e, z) in
    append_cancel_left (bits_of (take a xs)) word (bits_of (drop a xs)) both ∙ ap bits_of (drop-drop a from (take place bytes) ∙ ap (λ k. drop k (take place bytes)) n)

pub restart_passed : (xs : List ℕ) (word : List Bool) → word ≡ bits_of xs → passed xs word ≡ []
restart_passed xs word e = passed_is xs [] word e

pub restart_tie : (xs : List ℕ) (word : List Bool) → word ≡ bits_of xs → Tie xs word
restart_tie xs word e = rw (restart_passed xs word e) e

restart_mark : (m : Mark) (n : ℕ) → m.unread ≡ 0 → m.bytes ≡ n → m.short ≡ Truncated → record { unread = 0; bytes = n; check8 = 0; check16 = 0; short = Truncated } ≡ record m { check8 = 0; check16 = 0 }
restart_mark m n a b c = rw (a, b, c) refl

pub restarted : (bytes : List ℕ) (from place end before c8 c16 q : ℕ) (word : List Bool) (fence : Fence) (s : Store) → from ≤ place → place ≤ length bytes → Tie (drop from (take place bytes)) word → s.mark.unread ≡ 0 → q ≡ length word / 8
    → record { word = word; bytes = drop place (take end bytes); mark = past (passed (drop from (take place bytes)) word) (record { unread = 0; bytes = min (before + from) most; check8 = c8; check16 = c16; short = Truncated }); fence = fence } ≡ s
    → record { word = word; bytes = drop place (take end bytes); mark = past (passed (drop (place - q) (take place bytes)) word) (record { unread = 0; bytes = min (before + (place - q)) most; check8 = 0; check16 = 0; short = Truncated }); fence = fence }
    ≡ record s { mark = record s.mark { check8 = 0; check16 = 0 } }
restarted bytes from place end before c8 c16 q word fence s le inside tie z e is =
    let xs = drop from (take place bytes) in
    let start : Mark = record { unread = 0; bytes = min (before + from) most; check8 = c8; check16 = c16; short = Truncated } in
    let mark_is : past (passed xs word) start ≡ s.mark = ap (λ (t : Store). t.mark) is in
    let whole : length word % 8 ≡ 0 = unread_is xs word start tie refl ∙ ap (λ (m : Mark). m.unread) mark_is ∙ z in
    let long = begun_long bytes from place le inside in
    let fits = held_fits xs word tie in
    let count : s.mark.bytes ≡ min (before + (place - q)) most =
    let b = bytes_are xs word (min (before + from) most) start tie refl refl (omega arith) in
    sym (ap (λ (m : Mark). m.bytes) mark_is) ∙ b ∙ omega (arith, long, fits, e, whole) in
    let short : s.mark.short ≡ Truncated = sym (ap (λ (m : Mark). m.short) mark_is) ∙ past-short (passed xs word) start in
    let none = restart_passed (drop (place - q) (take place bytes)) word (restart_word bytes from place q word le inside tie whole e) in
    let marked = restart_mark s.mark (min (before + (place - q)) most) z count short in
    rw (none, ← marked, ← ap (λ (t : Store). t.word) is, ← ap (λ (t : Store). t.bytes) is, ← ap (λ (t : Store). t.fence) is) refl
