-- The samples of a frame from a place in it on.
use Rattle.std.proofs.Common.{◌≡◌, ℕ, zero, suc, ◌+◌, ◌-◌, ◌<◌, ◌≤◌, Bool, true, false, cond, nat_lt, ℤ, pos, List, [], ◌∷◌, ◌++◌, length, drop, refl, sym, ap, ◌∙◌, arith}
use Rattle.std.proofs.lemmas.Bool.{lt-ltb, le-ltb}
use Rattle.std.specs.Prelude.{slice_index_or}
use Rattle.flac_frame.specs.Frame.{Frame}
use Rattle.flac_frame.specs.Interleaved.{row, rows, interleaved}
use Rattle.flac_reader.specs.Places.{samples_from}

-- the sample of a channel at an index
abbrev sample : List (List ℤ) → ℕ → ℕ → ℤ
sample channels c i = slice_index_or (slice_index_or channels c []) i (pos 0)

drop_row : (channels : List (List ℤ)) (after : List ℤ) (i c : ℕ) → c < length channels → drop c (row channels i ++ after) ≡ sample channels c i ∷ drop (c + 1) (row channels i ++ after)
unfolding row
drop_row [] after i c lt = absurd (omega (arith, lt))
drop_row (x ∷ xs) after i zero lt = refl
drop_row (x ∷ xs) after i (suc c) lt =
    let more = drop_row xs after i c (omega (arith, lt)) in
    let e : suc c + 1 ≡ suc (c + 1) = omega arith in
    rw e more

drop_whole_row : (channels : List (List ℤ)) (after : List ℤ) (i : ℕ) → drop (length channels) (row channels i ++ after) ≡ after
unfolding row
drop_whole_row [] after i = refl
drop_whole_row (x ∷ xs) after i = drop_whole_row xs after i

-- the samples from an index on, where there is one
rows_here : (channels : List (List ℤ)) (size i : ℕ) → i < size → rows channels (size - i) i ≡ row channels i ++ rows channels (size - (i + 1)) (i + 1)
unfolding rows
rows_here channels size i lt =
    let e : size - i ≡ suc (size - (i + 1)) = omega (arith, lt) in
    rw e refl

drop_rows : (channels : List (List ℤ)) (size i c : ℕ) → i < size → c < length channels → drop c (rows channels (size - i) i) ≡ sample channels c i ∷ drop (c + 1) (rows channels (size - i) i)
drop_rows channels size i c short lt = rw (rows_here channels size i short) (drop_row channels (rows channels (size - (i + 1)) (i + 1)) i c lt)

drop_all_rows : (channels : List (List ℤ)) (size i n : ℕ) → i < size → n ≡ length channels → drop n (rows channels (size - i) i) ≡ rows channels (size - (i + 1)) (i + 1)
drop_all_rows channels size i n short is = rw (is, rows_here channels size i short) (drop_whole_row channels (rows channels (size - (i + 1)) (i + 1)) i)

no_rows : (n i : ℕ) → rows [] n i ≡ []
unfolding rows row
no_rows zero i = refl
no_rows (suc n) i = no_rows n (i + 1)

-- ---- where a place is

there : (f : Frame) (c i : ℕ) → c < length f.channels → samples_from f c i ≡ drop c (rows f.channels (f.size - i) i)
unfolding samples_from
there f c i lt = rw (lt-ltb c (length f.channels) lt) refl

pub from_no_channel : (f : Frame) (c i : ℕ) → length f.channels ≤ c → samples_from f c i ≡ []
unfolding samples_from
from_no_channel f c i le = rw (le-ltb c (length f.channels) le) refl

abbrev nothing : List ℤ
nothing = []

drop_none : (c : ℕ) → drop c nothing ≡ []
drop_none zero = refl
drop_none (suc c) = refl

pub from_no_index : (f : Frame) (c i : ℕ) → f.size ≤ i → samples_from f c i ≡ []
unfolding samples_from rows
from_no_index f c i le = go (nat_lt c (length f.channels))
  where
    none : drop c (rows f.channels (f.size - i) i) ≡ []
    none = let e : f.size - i ≡ 0 = omega (arith, le) in rw e (drop_none c)

    go : (b : Bool) → cond b (drop c (rows f.channels (f.size - i) i)) [] ≡ []
    go true = none
    go false = refl

pub from_channel : (f : Frame) (c i : ℕ) → i < f.size → c + 1 < length f.channels → samples_from f c i ≡ sample f.channels c i ∷ samples_from f (c + 1) i
from_channel f c i short more =
    let lt : c < length f.channels = omega (arith, more) in
    there f c i lt ∙ drop_rows f.channels f.size i c short lt ∙ ap (λ k. sample f.channels c i ∷ k) (sym (there f (c + 1) i more))

pub from_last_channel : (f : Frame) (c i : ℕ) → i < f.size → c < length f.channels → length f.channels ≤ c + 1 → samples_from f c i ≡ sample f.channels c i ∷ samples_from f 0 (i + 1)
from_last_channel f c i short lt last =
    let n : c + 1 ≡ length f.channels = omega (arith, lt, last) in
    let some : 0 < length f.channels = omega (arith, lt) in
    there f c i lt ∙ drop_rows f.channels f.size i c short lt
    ∙ ap (λ k. sample f.channels c i ∷ k) (drop_all_rows f.channels f.size i (c + 1) short n ∙ sym (there f 0 (i + 1) some))

-- a frame has all its samples from its start on
pub from_start : (f : Frame) → samples_from f 0 0 ≡ interleaved f
unfolding samples_from
from_start f = go f.channels f.size
  where
    go : (channels : List (List ℤ)) (size : ℕ) → samples_from (record f { channels = channels; size = size }) 0 0 ≡ rows channels size 0
    go [] size = sym (no_rows size 0)
    go (x ∷ xs) size =
        let e : size - 0 ≡ size = omega arith in
        there (record f { channels = x ∷ xs; size = size }) 0 0 (omega arith) ∙ ap (λ n. rows (x ∷ xs) n 0) e
