-- Bytes that were pulled, and the word.
use Rattle.std.proofs.Common.{◌≡◌, ℕ, suc, ◌+◌, ◌-◌, ◌*◌, ◌^◌, ◌<◌, ◌≤◌, Bool, List, [], ◌∷◌, ◌++◌, length, take, drop, get_or, refl, sym, ap, ◌∙◌, arith, append_assoc}
use Rattle.std.proofs.lemmas.List.{take_at, take_more, drop-append-le, get_or-take, length-take, length-append, append-nil}
use Rattle.std.proofs.Math.Seq.{drop-cons}
use Rattle.std.proofs.lemmas.Nat.{shr_high}
use Rattle.flac_bits.specs.Bits.{unsigned, bits_of}
use Rattle.flac_bits.specs.State.{Mark, past}
use Rattle.flac_bits.specs.Store.{passed}
use Rattle.flac_bits.specs.inner.Store.{four_at}
use Rattle.flac_bits.proofs.Readings.{unsigned_low, past-append}
use Rattle.flac_bits.proofs.Words.{split, length-unsigned}

pub length-bits_of : (xs : List ℕ) → length (bits_of xs) ≡ 8 * length xs
length-bits_of [] = refl
length-bits_of (x ∷ xs) = omega (arith, length-append (unsigned 8 x) (bits_of xs), length-unsigned 8 x, length-bits_of xs)

pub bits_of-append : (xs ys : List ℕ) → bits_of (xs ++ ys) ≡ bits_of xs ++ bits_of ys
bits_of-append [] ys = refl
bits_of-append (x ∷ xs) ys = ap (λ bs. unsigned 8 x ++ bs) (bits_of-append xs ys) ∙ sym (append_assoc (unsigned 8 x) (bits_of xs) (bits_of ys))

-- what is before the word is what passed
pub passed_is : (xs : List ℕ) (front word : List Bool) → front ++ word ≡ bits_of xs → passed xs word ≡ front
passed_is xs front word e =
    let long : length front ≡ 8 * length xs - length word = omega (arith, length-append front word, ap (λ (bs : List Bool). length bs) e, length-bits_of xs) in
    ap (take (8 * length xs - length word)) (sym e) ∙ take_at front word (8 * length xs - length word) long

-- bits leave the word
pub took : (xs : List ℕ) (text word : List Bool) → passed xs (text ++ word) ++ (text ++ word) ≡ bits_of xs → passed xs word ≡ passed xs (text ++ word) ++ text
took xs text word e = passed_is xs (passed xs (text ++ word) ++ text) word (append_assoc (passed xs (text ++ word)) text word ∙ e)

pub took_tie : (xs : List ℕ) (text old word : List Bool) → old ≡ text ++ word → passed xs old ++ old ≡ bits_of xs → passed xs word ++ word ≡ bits_of xs
took_tie xs text old word is e =
    let e' : passed xs (text ++ word) ++ (text ++ word) ≡ bits_of xs = rw (← is) e in
    rw (took xs text word e') (append_assoc (passed xs (text ++ word)) text word ∙ e')

pub took_mark : (xs : List ℕ) (text old word : List Bool) (start : Mark) → old ≡ text ++ word → passed xs old ++ old ≡ bits_of xs → past (passed xs word) start ≡ past text (past (passed xs old) start)
took_mark xs text old word start is e =
    let e' : passed xs (text ++ word) ++ (text ++ word) ≡ bits_of xs = rw (← is) e in
    ap (λ bs. past bs start) (took xs text word e') ∙ past-append (passed xs (text ++ word)) text start ∙ ap (λ bs. past text (past (passed xs bs) start)) (sym is)

-- bytes come into the word
came : (xs ys : List ℕ) (word : List Bool) → passed xs word ++ word ≡ bits_of xs → passed xs word ++ (word ++ bits_of ys) ≡ bits_of (xs ++ ys)
came xs ys word e = sym (append_assoc (passed xs word) word (bits_of ys)) ∙ ap (λ bs. bs ++ bits_of ys) e ∙ sym (bits_of-append xs ys)

pub came_passed : (xs ys : List ℕ) (word : List Bool) → passed xs word ++ word ≡ bits_of xs → passed (xs ++ ys) (word ++ bits_of ys) ≡ passed xs word
came_passed xs ys word e = passed_is (xs ++ ys) (passed xs word) (word ++ bits_of ys) (came xs ys word e)

pub came_tie : (xs ys : List ℕ) (word : List Bool) → passed xs word ++ word ≡ bits_of xs → passed (xs ++ ys) (word ++ bits_of ys) ++ (word ++ bits_of ys) ≡ bits_of (xs ++ ys)
came_tie xs ys word e = rw (came_passed xs ys word e) (came xs ys word e)

-- one byte of the array, which goes into the word
pub one_begun : (bytes : List ℕ) (from place : ℕ) → from ≤ place → place < length bytes → drop from (take (place + 1) bytes) ≡ drop from (take place bytes) ++ get_or bytes place 0 ∷ []
one_begun bytes from place le lt =
    ap (drop from) (take_more bytes place 0 lt) ∙ drop-append-le from (take place bytes) (get_or bytes place 0 ∷ []) (omega (arith, length-take place bytes))

pub one_left : (bytes : List ℕ) (place end : ℕ) → place < end → end ≤ length bytes → drop place (take end bytes) ≡ get_or bytes place 0 ∷ drop (place + 1) (take end bytes)
one_left bytes place end lt le =
    let e : suc place ≡ place + 1 = omega arith in
    drop-cons (take end bytes) place 0 (omega (arith, length-take end bytes)) ∙ ap (λ b. b ∷ drop (suc place) (take end bytes)) (get_or-take end bytes place 0 lt) ∙ ap (λ k. get_or bytes place 0 ∷ drop k (take end bytes)) e

pub four_left : (bytes : List ℕ) (place end : ℕ) → place + 4 ≤ end → end ≤ length bytes → drop place (take end bytes) ≡ four_at bytes place ++ drop (place + 4) (take end bytes)
four_left bytes place end lt le =
    let a : place + 1 + 1 ≡ place + 2 = omega arith in
    let b : place + 2 + 1 ≡ place + 3 = omega arith in
    let c : place + 3 + 1 ≡ place + 4 = omega arith in
    let one = one_left bytes (place + 1) end (omega arith) le in
    let two = one_left bytes (place + 2) end (omega arith) le in
    let three = one_left bytes (place + 3) end (omega arith) le in
    one_left bytes place end (omega arith) le
    ∙ ap (λ bs. get_or bytes place 0 ∷ bs) (one ∙ ap (λ k. get_or bytes (place + 1) 0 ∷ drop k (take end bytes)) a)
    ∙ ap (λ bs. get_or bytes place 0 ∷ get_or bytes (place + 1) 0 ∷ bs) (two ∙ ap (λ k. get_or bytes (place + 2) 0 ∷ drop k (take end bytes)) b)
    ∙ ap (λ bs. get_or bytes place 0 ∷ get_or bytes (place + 1) 0 ∷ get_or bytes (place + 2) 0 ∷ bs) (three ∙ ap (λ k. get_or bytes (place + 3) 0 ∷ drop k (take end bytes)) c)

pub four_begun : (bytes : List ℕ) (from place : ℕ) → from ≤ place → place + 4 ≤ length bytes → drop from (take (place + 4) bytes) ≡ drop from (take place bytes) ++ four_at bytes place
four_begun bytes from place le lt =
    let f = take place bytes in
    let a : place + 4 ≡ place + 3 + 1 = omega arith in
    let b : place + 3 ≡ place + 2 + 1 = omega arith in
    let c : place + 2 ≡ place + 1 + 1 = omega arith in
    let three = one_begun bytes from (place + 3) (omega arith) (omega arith) in
    let two = one_begun bytes from (place + 2) (omega arith) (omega arith) in
    let one = one_begun bytes from (place + 1) (omega arith) (omega arith) in
    let first = one_begun bytes from place le (omega arith) in
    let g = λ (i : ℕ). get_or bytes i 0 in
    let s = drop from (take place bytes) in
    ap (λ k. drop from (take k bytes)) a ∙ three ∙ ap (λ k. drop from (take k bytes) ++ g (place + 3) ∷ []) b ∙ ap (λ bs. bs ++ g (place + 3) ∷ []) (two ∙ ap (λ k. drop from (take k bytes) ++ g (place + 2) ∷ []) c ∙ ap (λ bs. bs ++ g (place + 2) ∷ []) (one ∙ ap (λ bs. bs ++ g (place + 1) ∷ []) first))
    ∙ ap (λ bs. (bs ++ g (place + 2) ∷ []) ++ g (place + 3) ∷ []) (append_assoc s (g place ∷ []) (g (place + 1) ∷ []))
    ∙ ap (λ bs. bs ++ g (place + 3) ∷ []) (append_assoc s (g place ∷ g (place + 1) ∷ []) (g (place + 2) ∷ []))
    ∙ append_assoc s (g place ∷ g (place + 1) ∷ g (place + 2) ∷ []) (g (place + 3) ∷ [])

-- a byte at the top of a number
byte_top : (k a v : ℕ) → v < 2 ^ k → unsigned (8 + k) (a * 2 ^ k + v) ≡ unsigned 8 a ++ unsigned k v
byte_top k a v lt = split 8 k (a * 2 ^ k + v) ∙ ap (λ x. unsigned 8 x ++ unsigned k (a * 2 ^ k + v)) (shr_high a k v lt) ∙ ap (λ bs. unsigned 8 a ++ bs) (unsigned_low k a k v (omega arith))

pub four_bits : (a b c d v : ℕ) → a < 256 → b < 256 → c < 256 → d < 256 → v ≡ a * 16777216 + b * 65536 + c * 256 + d → unsigned 32 v ≡ bits_of (a ∷ b ∷ c ∷ d ∷ [])
four_bits a b c d v fa fb fc fd e =
    let is : v ≡ a * 2 ^ 24 + (b * 2 ^ 16 + (c * 2 ^ 8 + d)) = omega (arith, e) in
    ap (unsigned 32) is ∙ byte_top 24 a (b * 2 ^ 16 + (c * 2 ^ 8 + d)) (omega (arith, fb, fc, fd))
    ∙ ap (λ bs. unsigned 8 a ++ bs) (byte_top 16 b (c * 2 ^ 8 + d) (omega (arith, fc, fd)) ∙ ap (λ bs. unsigned 8 b ++ bs) (byte_top 8 c d fd ∙ ap (λ bs. unsigned 8 c ++ bs) (sym (append-nil (unsigned 8 d)))))

-- the four bytes in the word
pub came_four : (bytes : List ℕ) (from place : ℕ) (word new : List Bool) → from ≤ place → place + 4 ≤ length bytes → new ≡ word ++ bits_of (four_at bytes place)
    → passed (drop from (take place bytes)) word ++ word ≡ bits_of (drop from (take place bytes)) → passed (drop from (take (place + 4) bytes)) new ++ new ≡ bits_of (drop from (take (place + 4) bytes))
came_four bytes from place word new le lt is tie = rw (four_begun bytes from place le lt, is) (came_tie (drop from (take place bytes)) (four_at bytes place) word tie)

pub came_four_mark : (bytes : List ℕ) (from place : ℕ) (word new : List Bool) (start : Mark) → from ≤ place → place + 4 ≤ length bytes → new ≡ word ++ bits_of (four_at bytes place)
    → passed (drop from (take place bytes)) word ++ word ≡ bits_of (drop from (take place bytes)) → past (passed (drop from (take (place + 4) bytes)) new) start ≡ past (passed (drop from (take place bytes)) word) start
came_four_mark bytes from place word new start le lt is tie = rw (four_begun bytes from place le lt, is) (ap (λ bs. past bs start) (came_passed (drop from (take place bytes)) (four_at bytes place) word tie))

pub came_four_left : (bytes : List ℕ) (place end : ℕ) (word new : List Bool) → place + 4 ≤ end → end ≤ length bytes → new ≡ word ++ bits_of (four_at bytes place)
    → new ++ bits_of (drop (place + 4) (take end bytes)) ≡ word ++ bits_of (drop place (take end bytes))
came_four_left bytes place end word new lt le is =
    rw (four_left bytes place end lt le, is)
    (append_assoc word (bits_of (four_at bytes place)) (bits_of (drop (place + 4) (take end bytes))) ∙ ap (λ bs. word ++ bs) (sym (bits_of-append (four_at bytes place) (drop (place + 4) (take end bytes)))))

-- one byte in the word, which was empty
pub came_one : (bytes : List ℕ) (from place : ℕ) (word new : List Bool) → from ≤ place → place < length bytes → word ≡ [] → new ≡ unsigned 8 (get_or bytes place 0)
    → passed (drop from (take place bytes)) word ++ word ≡ bits_of (drop from (take place bytes)) → passed (drop from (take (place + 1) bytes)) new ++ new ≡ bits_of (drop from (take (place + 1) bytes))
came_one bytes from place word new le lt none is tie =
    let same : new ≡ word ++ bits_of (get_or bytes place 0 ∷ []) = is ∙ sym (append-nil (unsigned 8 (get_or bytes place 0))) ∙ ap (λ w. w ++ bits_of (get_or bytes place 0 ∷ [])) (sym none) in
    rw (one_begun bytes from place le lt, same) (came_tie (drop from (take place bytes)) (get_or bytes place 0 ∷ []) word tie)

pub came_one_mark : (bytes : List ℕ) (from place : ℕ) (word new : List Bool) (start : Mark) → from ≤ place → place < length bytes → word ≡ [] → new ≡ unsigned 8 (get_or bytes place 0)
    → passed (drop from (take place bytes)) word ++ word ≡ bits_of (drop from (take place bytes)) → past (passed (drop from (take (place + 1) bytes)) new) start ≡ past (passed (drop from (take place bytes)) word) start
came_one_mark bytes from place word new start le lt none is tie =
    let same : new ≡ word ++ bits_of (get_or bytes place 0 ∷ []) = is ∙ sym (append-nil (unsigned 8 (get_or bytes place 0))) ∙ ap (λ w. w ++ bits_of (get_or bytes place 0 ∷ [])) (sym none) in
    rw (one_begun bytes from place le lt, same) (ap (λ bs. past bs start) (came_passed (drop from (take place bytes)) (get_or bytes place 0 ∷ []) word tie))

pub came_one_left : (bytes : List ℕ) (place end : ℕ) (word new : List Bool) → place < end → end ≤ length bytes → word ≡ [] → new ≡ unsigned 8 (get_or bytes place 0)
    → new ++ bits_of (drop (place + 1) (take end bytes)) ≡ word ++ bits_of (drop place (take end bytes))
came_one_left bytes place end word new lt le none is = rw (one_left bytes place end lt le, is, none) refl
