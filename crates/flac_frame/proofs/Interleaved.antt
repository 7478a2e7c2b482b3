-- Samples of channels, interleaved.
use Rattle.std.proofs.Common.{◌≡◌, ℕ, zero, suc, ℤ, pos, ◌+◌, ◌-◌, ◌<◌, ◌≤◌, List, [], ◌∷◌, ◌++◌, length, length-append, take, drop, set, cond, is_ok, Result, Ok, refl, sym, ap, ◌∙◌, append_assoc, arith}
use Rattle.std.proofs.lemmas.List.{append-nil, drop-drop, take_more_set, drop-set-lt, length-take-le, take-append-le, take_at}
use Rattle.std.proofs.lemmas.Slice.{take-put_mid}
use borrow.Rule.Slice.PartMut.{put_mid}
use Rattle.std.specs.Prelude.{slice_index_or}
use Rattle.flac_frame.specs.Interleaved.{row, rows}

pub length-row : (channels : List (List ℤ)) (i : ℕ) → length (row channels i) ≡ length channels
unfolding row
length-row [] i = refl
length-row (x ∷ xs) i = ap suc (length-row xs i)

-- the samples of one more channel
pub row_more : (channels : List (List ℤ)) (i c : ℕ) → c < length channels
    → row (take (c + 1) channels) i ≡ row (take c channels) i ++ slice_index_or (slice_index_or channels c []) i (pos 0) ∷ []
unfolding row
row_more [] i c lt = absurd (omega (arith, lt))
row_more (x ∷ xs) i zero lt = refl
row_more (x ∷ xs) i (suc c) lt =
    let more = row_more xs i c (omega (arith, lt)) in
    let e : suc c + 1 ≡ suc (c + 1) = omega arith in
    rw e (ap (λ r. slice_index_or x i (pos 0) ∷ r) more)

-- the samples at one more index
pub rows_more : (channels : List (List ℤ)) (n i : ℕ) → rows channels (n + 1) i ≡ rows channels n i ++ row channels (i + n)
unfolding rows
rows_more channels zero i = append-nil (row channels i) ∙ ap (λ k. row channels k) (let e : i ≡ i + 0 = omega arith in e)
rows_more channels (suc n) i =
    let more = rows_more channels n (i + 1) in
    let e : i + 1 + n ≡ i + suc n = omega arith in
    let s : suc n + 1 ≡ suc (n + 1) = omega arith in
    rw s (ap (λ r. row channels i ++ r) (more ∙ ap (λ k. rows channels n (i + 1) ++ row channels k) e) ∙ sym (append_assoc (row channels i) (rows channels n (i + 1)) (row channels (i + suc n))))

-- what lies after n more places
pub drop_further : {A : Type 0} (xs ys : List A) (i n : ℕ) → drop i xs ≡ drop i ys → drop (i + n) xs ≡ drop (i + n) ys
drop_further xs ys i n e = sym (drop-drop n i xs) ∙ ap (drop n) e ∙ drop-drop n i ys

-- one sample more was written
pub row_put : (out before chans : List ℤ) (z : ℤ) (at c n : ℕ) → at + c < length out → n ≡ at + (c + 1) → take (at + c) out ≡ take at before ++ chans → take n (set out (at + c) z) ≡ take at before ++ (chans ++ z ∷ [])
row_put out before chans z at c n lt is so =
    let e : n ≡ at + c + 1 = omega (arith, is) in
    rw e (take_more_set out (at + c) z lt ∙ ap (λ l. l ++ z ∷ []) so ∙ append_assoc (take at before) chans (z ∷ []))

pub rest_put : (out before : List ℤ) (z : ℤ) (at c n : ℕ) → n ≡ at + (c + 1) → drop (at + c) out ≡ drop (at + c) before → drop n (set out (at + c) z) ≡ drop n before
rest_put out before z at c n is so =
    let e : n ≡ at + c + 1 = omega (arith, is) in
    rw e (drop-set-lt (at + c + 1) out (at + c) z (omega arith) ∙ drop_further out before (at + c) 1 so)

-- ---- samples after those of a vector

-- a vector that was made longer
pub grown : {X T E : Type 0} (old now front rest : List X) (r : Result T E) (x : T) → r ≡ Ok x → now ≡ cond (is_ok r) (front ++ rest) old → front ≡ old → now ≡ old ++ rest
grown old now front rest r x is e same = e ∙ ap (λ k. cond (is_ok k) (front ++ rest) old) is ∙ ap (λ l. l ++ rest) same

-- the places after its old elements were then written
pub places_after : (n front : ℕ) (old rest places items ys : List ℤ) → front ≡ length old → items ≡ old ++ rest → places ≡ items → n ≡ front + length ys → length ys ≡ length places - front
    → take n (put_mid front (length places - front) places ys ++ drop (length (put_mid front (length places - front) places ys)) items) ≡ old ++ ys
places_after n front old rest places items ys many sized same all long =
    let is : places ≡ old ++ rest = same ∙ sized in
    let within : front ≤ length places = omega (arith, ap length is, length-append old rest, many) in
    let k : ℕ = length places - front in
    let put = put_mid front k places ys in
    let post : List ℤ = drop k (drop front places) in
    let few : n ≤ length put = (let a = length-append (take front places) (ys ++ post) in let b = length-append ys post in let t = length-take-le front places within in omega (arith, a, b, t, all)) in
    take-append-le n put (drop (length put) items) few ∙ take-put_mid front k places ys n all within
    ∙ ap (λ l. l ++ ys) (ap (take front) is ∙ take_at old rest front (sym many))
