-- Channels to which samples are added, one channel after another.
use Rattle.std.proofs.Common.{◌≡◌, ◌≤◌, ◌<◌, ◌+◌, ◌∙◌, ℕ, zero, suc, ℤ, List, [], ◌∷◌, ◌++◌, ◌-◌, length, map, min, take, get_or, set, refl, sym, ap, arith}
use Rattle.std.specs.Prelude.{pos, replicate}
use Rattle.std.proofs.lemmas.List.{replicate_more, map-append, take_min}
use Rattle.std.proofs.Math.Seq.{take-length}
use Rattle.flac_rescue.specs.Channels.{extended, with_silence}

-- one more channel without samples
pub one_empty : {A B : Type 0} (f : A → List B) (xs ys : List A) (x : A) (n : ℕ) → ys ≡ xs ++ x ∷ [] → f x ≡ [] → map f xs ≡ replicate n [] → map f ys ≡ replicate (n + 1) []
one_empty f xs ys x n pushed none held = ap (map f) pushed ∙ map-append f xs (x ∷ []) ∙ ap (λ l. map f xs ++ l ∷ []) none ∙ ap (λ l. l ++ [] ∷ []) held ∙ replicate_more n []

-- the first n channels have the samples of a frame too
abbrev pub extended_first : (n : ℕ) (channels more : List (List ℤ)) → List (List ℤ)
extended_first zero cs ms = cs
extended_first (suc n) [] ms = []
extended_first (suc n) (c ∷ cs) [] = c ∷ cs
extended_first (suc n) (c ∷ cs) (m ∷ ms) = (c ++ m) ∷ extended_first n cs ms

next_extended : (n : ℕ) (cs ms : List (List ℤ)) → n < length cs → n < length ms → set (extended_first n cs ms) n (get_or (extended_first n cs ms) n [] ++ get_or ms n []) ≡ extended_first (suc n) cs ms
next_extended n [] ms lt few = absurd (omega (arith, lt))
next_extended n (c ∷ cs) [] lt few = absurd (omega (arith, few))
next_extended zero (c ∷ cs) (m ∷ ms) lt few = refl
next_extended (suc n) (c ∷ cs) (m ∷ ms) lt few = ap (λ l. (c ++ m) ∷ l) (next_extended n cs ms (omega (arith, lt)) (omega (arith, few)))

-- and one more
pub one_extended : (n : ℕ) (cs ms now : List (List ℤ)) (samples : List ℤ) → n < min (length cs) (length ms) → now ≡ extended_first n cs ms → samples ≡ get_or now n [] ++ get_or ms n [] → set now n samples ≡ extended_first (n + 1) cs ms
one_extended n cs ms now samples lt is added =
    let e : n + 1 ≡ suc n = omega arith in
    rw (e, added, is) (next_extended n cs ms (omega (arith, lt)) (omega (arith, lt)))

-- in the end all of them
pub all_extended : (n : ℕ) (cs ms : List (List ℤ)) → min (length cs) (length ms) ≤ n → extended_first n cs ms ≡ extended cs ms
all_extended zero [] ms le = refl
all_extended (suc n) [] ms le = refl
all_extended zero (c ∷ cs) [] le = refl
all_extended zero (c ∷ cs) (m ∷ ms) le = absurd (omega (arith, le))
all_extended (suc n) (c ∷ cs) [] le = refl
all_extended (suc n) (c ∷ cs) (m ∷ ms) le = ap (λ l. (c ++ m) ∷ l) (all_extended n cs ms (omega (arith, le)))

-- ---- silence

-- the first n channels have it too
abbrev pub silent_first : (count n : ℕ) (channels : List (List ℤ)) → List (List ℤ)
silent_first count zero cs = cs
silent_first count (suc n) [] = []
silent_first count (suc n) (c ∷ cs) = (c ++ replicate count (pos 0)) ∷ silent_first count n cs

next_silent : (count n : ℕ) (cs : List (List ℤ)) → n < length cs → set (silent_first count n cs) n (get_or (silent_first count n cs) n [] ++ replicate count (pos 0)) ≡ silent_first count (suc n) cs
next_silent count n [] lt = absurd (omega (arith, lt))
next_silent count zero (c ∷ cs) lt = refl
next_silent count (suc n) (c ∷ cs) lt = ap (λ l. (c ++ replicate count (pos 0)) ∷ l) (next_silent count n cs (omega (arith, lt)))

pub one_silent : (count n : ℕ) (cs now : List (List ℤ)) (samples : List ℤ) → n < length cs → now ≡ silent_first count n cs → samples ≡ get_or now n [] ++ replicate count (pos 0) → set now n samples ≡ silent_first count (n + 1) cs
one_silent count n cs now samples lt is added =
    let e : n + 1 ≡ suc n = omega arith in
    rw (e, added, is) (next_silent count n cs lt)

pub all_silent : (count n : ℕ) (cs : List (List ℤ)) → length cs ≤ n → silent_first count n cs ≡ with_silence count cs
all_silent count zero [] le = refl
all_silent count (suc n) [] le = refl
all_silent count zero (c ∷ cs) le = absurd (omega (arith, le))
all_silent count (suc n) (c ∷ cs) le = ap (λ l. (c ++ replicate count (pos 0)) ∷ l) (all_silent count n cs (omega (arith, le)))

take_whole : (xs : List ℤ) (n : ℕ) → length xs ≤ n → take n xs ≡ xs
take_whole xs n le =
    let e : min n (length xs) ≡ length xs = omega (arith, le) in
    sym (take_min n xs) ∙ ap (λ k. take k xs) e ∙ take-length xs

-- a channel that is filled up with zeros
pub zeros_added : (old new : List ℤ) (size len count : ℕ) → size ≡ length old → len ≡ size + count → new ≡ take len old ++ replicate (len - size) (pos 0) → new ≡ old ++ replicate count (pos 0)
zeros_added old new size len count same sum filled =
    let e : len - size ≡ count = omega (arith, sum) in
    filled ∙ ap (λ l. l ++ replicate (len - size) (pos 0)) (take_whole old len (omega (arith, sum, same))) ∙ ap (λ k. old ++ replicate k (pos 0)) e
