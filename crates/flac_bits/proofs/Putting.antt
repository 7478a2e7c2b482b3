-- Bits after those that are held, and bytes that are sent.
use Rattle.std.proofs.Common.{◌≡◌, ℕ, zero, suc, ◌+◌, ◌-◌, ◌*◌, ◌/◌, ◌%◌, ◌^◌, ◌≤◌, Bool, List, [], ◌∷◌, ◌++◌, length, take, drop, min, refl, sym, ap, ◌∙◌, arith, append_assoc}
use Rattle.std.specs.Int.{bytes_high_first, byte_at}
use Rattle.std.specs.List.{slice_range}
use Rattle.std.proofs.lemmas.List.{append-nil, drop-append-le, drop-take, length-take, length-drop, length-append}
use Rattle.std.proofs.Math.Nat.{pow-suc}
use Rattle.std.proofs.lemmas.Nat.{pow-add}
use Rattle.flac_bits.specs.Bits.{unsigned, bits_of}
use Rattle.flac_bits.specs.Check.{fed}
use Rattle.flac_bits.specs.State.{Mark, past}
use Rattle.flac_bits.specs.Unsent.{Unsent}
use Rattle.flac_bits.specs.declared.why.Why.TheVariants.{Truncated}
use Rattle.flac_bits.proofs.Readings.{past-append}
use Rattle.flac_bits.proofs.Words.{split}
use Rattle.flac_bits.proofs.Holding.{length-bits_of, bits_of-append}
use Rattle.flac_bits.proofs.Marks.{past-unread, past-bytes, past_whole}
use Rattle.flac_bits.proofs.Check.{fed-append}
use Rattle.flac_bits.proofs.Appending.{low_mod}

abbrev most : ℕ
most = 2 ^ 64 - 1

worth : (k : ℕ) → 256 ^ k ≡ 2 ^ (8 * k)
worth zero = refl
worth (suc k) =
    let e : 8 * suc k ≡ 8 * k + 8 = omega arith in
    pow-suc 256 k ∙ ap (λ p. p * 256) (worth k) ∙ sym (pow-add 2 (8 * k) 8) ∙ ap (λ j. 2 ^ j) (sym e)

byte_is : (k n : ℕ) → byte_at k n ≡ n / 2 ^ (8 * k) % 2 ^ 8
byte_is zero n = let d : n / 1 ≡ n = omega arith in ap (λ v. v % 256) (sym d)
byte_is (suc k) n = ap (λ p. n / p % 256) (worth (suc k))

-- the bytes of a number are its bits
pub number_bytes : (k n : ℕ) → bits_of (bytes_high_first k n) ≡ unsigned (8 * k) n
number_bytes zero n = refl
number_bytes (suc k) n =
    let e : 8 * suc k ≡ 8 + 8 * k = omega arith in
    ap (λ bs. unsigned 8 (byte_at k n) ++ bs) (number_bytes k n)
    ∙ ap (λ v. unsigned 8 v ++ unsigned (8 * k) n) (byte_is k n) ∙ ap (λ bs. bs ++ unsigned (8 * k) n) (low_mod 8 8 (n / 2 ^ (8 * k)) (omega arith))
    ∙ sym (split 8 (8 * k) n) ∙ ap (λ j. unsigned j n) (sym e)

core : (xs more : List ℕ) (rest rest' text : List Bool) → bits_of more ++ rest' ≡ rest ++ text → bits_of (xs ++ more) ++ rest' ≡ (bits_of xs ++ rest) ++ text
core xs more rest rest' text tie =
    ap (λ bs. bs ++ rest') (bits_of-append xs more) ∙ append_assoc (bits_of xs) (bits_of more) rest' ∙ ap (λ bs. bits_of xs ++ bs) tie ∙ sym (append_assoc (bits_of xs) rest text)

-- some bytes more, and other bits after them
pub putting : (xs ys more : List ℕ) (from : ℕ) (rest rest' text : List Bool) (start : Mark) (u : Unsent)
    → record { bytes = xs; rest = rest; mark = past (bits_of (drop from xs) ++ rest) start } ≡ u → ys ≡ xs ++ more → from ≤ length xs → bits_of more ++ rest' ≡ rest ++ text
    → (bits_of ys ++ rest' ≡ (bits_of u.bytes ++ u.rest) ++ text) × (past (bits_of (drop from ys) ++ rest') start ≡ past text u.mark)
putting xs ys more from rest rest' text start u view is le tie = (
  ap (λ zs. bits_of zs ++ rest') is ∙ core xs more rest rest' text tie ∙ ap (λ (v : Unsent). (bits_of v.bytes ++ v.rest) ++ text) view,
  ap (λ zs. past (bits_of zs ++ rest') start) (ap (drop from) is ∙ drop-append-le from xs more le) ∙ ap (λ bs. past bs start) (core (drop from xs) more rest rest' text tie)
      ∙ past-append (bits_of (drop from xs) ++ rest) text start ∙ ap (λ (v : Unsent). past text v.mark) view,
)

-- no bytes more
pub putting_rest : (xs : List ℕ) (from : ℕ) (rest rest' text : List Bool) (start : Mark) (u : Unsent)
    → record { bytes = xs; rest = rest; mark = past (bits_of (drop from xs) ++ rest) start } ≡ u → from ≤ length xs → rest' ≡ rest ++ text
    → (bits_of xs ++ rest' ≡ (bits_of u.bytes ++ u.rest) ++ text) × (past (bits_of (drop from xs) ++ rest') start ≡ past text u.mark)
putting_rest xs from rest rest' text start u view le tie = putting xs xs [] from rest rest' text start u view (sym (append-nil xs)) le tie

-- the same bits, with some of them as bytes
pub settled : (xs ys more : List ℕ) (from : ℕ) (rest rest' : List Bool) (start : Mark) (u : Unsent)
    → record { bytes = xs; rest = rest; mark = past (bits_of (drop from xs) ++ rest) start } ≡ u → ys ≡ xs ++ more → from ≤ length xs → rest ≡ bits_of more ++ rest'
    → (bits_of ys ++ rest' ≡ bits_of u.bytes ++ u.rest) × (past (bits_of (drop from ys) ++ rest') start ≡ u.mark)
settled xs ys more from rest rest' start u view is le tie =
    let p = putting xs ys more from rest rest' [] start u view is le (sym tie ∙ sym (append-nil rest)) in
    (p.0 ∙ append-nil (bits_of u.bytes ++ u.rest), p.1)

slice_is : (bytes : List ℕ) (from end : ℕ) → from ≤ end → end ≤ length bytes → slice_range bytes from end ≡ drop from (take end bytes)
slice_is bytes from end le inside =
    let n : from + (end - from) ≡ end = omega arith in
    sym (drop-take from (end - from) bytes) ∙ ap (λ k. drop from (take k bytes)) n

held_long : (bytes : List ℕ) (from end : ℕ) (rest : List Bool) → from ≤ end → end ≤ length bytes → length (bits_of (drop from (take end bytes)) ++ rest) ≡ 8 * (end - from) + length rest
held_long bytes from end rest le inside =
    let xs = drop from (take end bytes) in
    omega (arith, length-append (bits_of xs) rest, length-bits_of xs, length-drop from (take end bytes), length-take end bytes)

pub unread_is : (bytes : List ℕ) (from end : ℕ) (rest : List Bool) (m : Mark) → from ≤ end → end ≤ length bytes → m.unread ≡ 0 → length rest ≤ 63
    → (64 - length rest) % 8 ≡ (past (bits_of (drop from (take end bytes)) ++ rest) m).unread
unread_is bytes from end rest m le inside z few =
    omega (arith, past-unread (bits_of (drop from (take end bytes)) ++ rest) 0 m z (omega arith), held_long bytes from end rest le inside, few)

pub begun_is : (bytes : List ℕ) (from end before : ℕ) (rest : List Bool) (m : Mark) → from ≤ end → end ≤ length bytes → m.unread ≡ 0 → m.bytes ≡ min (before + from) most
    → min (before + (end + (length rest + 7) / 8)) most ≡ (past (bits_of (drop from (take end bytes)) ++ rest) m).bytes
begun_is bytes from end before rest m le inside z e =
    omega (arith, past-bytes (bits_of (drop from (take end bytes)) ++ rest) 0 (min (before + from) most) m z (omega arith) e (omega arith), held_long bytes from end rest le inside)

pub checked_is : (w g c : ℕ) (bytes : List ℕ) (from end : ℕ) (rest : List Bool) → from ≤ end → end ≤ length bytes
    → fed w g (fed w g c (bits_of (slice_range bytes from end))) rest ≡ fed w g c (bits_of (drop from (take end bytes)) ++ rest)
checked_is w g c bytes from end rest le inside =
    ap (λ xs. fed w g (fed w g c (bits_of xs)) rest) (slice_is bytes from end le inside) ∙ sym (fed-append w g c (bits_of (drop from (take end bytes))) rest)

-- if all bytes are sent, their checks and their count are carried on
pub sent_mark : (bytes : List ℕ) (from end before c8 c16 b k8 k16 : ℕ) (rest : List Bool) (m : Mark) → from ≤ end → end ≤ length bytes
    → k8 ≡ fed 8 7 c8 (bits_of (slice_range bytes from end)) → k16 ≡ fed 16 32773 c16 (bits_of (slice_range bytes from end)) → b ≡ min (before + end) most
    → past (bits_of (drop from (take end bytes)) ++ rest) (record { unread = 0; bytes = min (before + from) most; check8 = c8; check16 = c16; short = Truncated }) ≡ m
    → past rest (record { unread = 0; bytes = min (b + 0) most; check8 = k8; check16 = k16; short = Truncated }) ≡ m
sent_mark bytes from end before c8 c16 b k8 k16 rest m le inside e8 e16 eb is =
    let xs = drop from (take end bytes) in
    let start : Mark = record { unread = 0; bytes = min (before + from) most; check8 = c8; check16 = c16; short = Truncated } in
    let long : length xs ≡ end - from = omega (arith, length-drop from (take end bytes), length-take end bytes) in
    let count : min (b + 0) most ≡ min (min (before + from) most + length xs) most = omega (arith, eb, long) in
    let whole = past_whole xs start refl (omega arith) in
    rw (count, e8, e16, slice_is bytes from end le inside) (ap (past rest) (sym whole)) ∙ sym (past-append (bits_of xs) rest start) ∙ is

-- the bits after the whole bytes and those still to come make up whole bytes
pub rest_unread : (bytes : List ℕ) (from end : ℕ) (rest : List Bool) (m : Mark) → from ≤ end → end ≤ length bytes → m.unread ≡ 0 → (length rest + (past (bits_of (drop from (take end bytes)) ++ rest) m).unread) % 8 ≡ 0
rest_unread bytes from end rest m le inside z =
    omega (arith, past-unread (bits_of (drop from (take end bytes)) ++ rest) 0 m z (omega arith), held_long bytes from end rest le inside)

none_of : {A : Type 0} (xs : List A) → length xs ≡ 0 → xs ≡ []
none_of [] e = refl
none_of (x ∷ xs) e = absurd (omega (arith, e))

anew : (m : Mark) (n : ℕ) → m.unread ≡ 0 → m.bytes ≡ n → m.short ≡ Truncated → record { unread = 0; bytes = n; check8 = 0; check16 = 0; short = Truncated } ≡ record m { check8 = 0; check16 = 0 }
anew m n a b c = rw (a, b, c) refl

-- the checks begin anew after whole bytes
pub restarted : (bytes : List ℕ) (from end before c8 c16 : ℕ) (rest : List Bool) (u : Unsent) → from ≤ end → end ≤ length bytes → u.rest ≡ []
    → record { bytes = take end bytes; rest = rest; mark = past (bits_of (drop from (take end bytes)) ++ rest) (record { unread = 0; bytes = min (before + from) most; check8 = c8; check16 = c16; short = Truncated }) } ≡ u
    → record { bytes = take end bytes; rest = rest; mark = past (bits_of (drop end (take end bytes)) ++ rest) (record { unread = 0; bytes = min (before + end) most; check8 = 0; check16 = 0; short = Truncated }) }
    ≡ record u { mark = record u.mark { check8 = 0; check16 = 0 } }
restarted bytes from end before c8 c16 rest u le inside none is =
    let xs = drop from (take end bytes) in
    let start : Mark = record { unread = 0; bytes = min (before + from) most; check8 = c8; check16 = c16; short = Truncated } in
    let rest_none : rest ≡ [] = ap (λ (v : Unsent). v.rest) is ∙ none in
    let long : length xs ≡ end - from = omega (arith, length-drop from (take end bytes), length-take end bytes) in
    let out : drop end (take end bytes) ≡ [] = none_of (drop end (take end bytes)) (omega (arith, length-drop end (take end bytes), length-take end bytes)) in
    let whole = past_whole xs start refl (omega arith) in
    let mark_is : u.mark ≡ past (bits_of xs) start = sym (ap (λ (v : Unsent). v.mark) is) ∙ ap (λ r. past (bits_of xs ++ r) start) rest_none ∙ ap (λ bs. past bs start) (append-nil (bits_of xs)) in
    let z : u.mark.unread ≡ 0 = ap (λ (m : Mark). m.unread) (mark_is ∙ whole) in
    let count : u.mark.bytes ≡ min (before + end) most = ap (λ (m : Mark). m.bytes) (mark_is ∙ whole) ∙ omega (arith, long) in
    let short : u.mark.short ≡ Truncated = ap (λ (m : Mark). m.short) (mark_is ∙ whole) in
    let marked = anew u.mark (min (before + end) most) z count short in
    rw (out, ← marked, ← ap (λ (v : Unsent). v.bytes) is, ← ap (λ (v : Unsent). v.rest) is) (rw rest_none refl)
