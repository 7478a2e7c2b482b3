-- The kind of a file by its first four bytes.
use Rattle.std.proofs.Common.{◌≡◌, ◌∙◌, ◌≤◌, ◌<◌, ◌&&◌, not, Bool, ℕ, List, [], ◌++◌, length, take, is_some, ap, sym, refl, arith, inl, inr}
use Rattle.std.proofs.Math.Nat.{eq-or-lt_of_le}
use Rattle.std.proofs.lemmas.List.{take-append-le, append-nil, length-take-le}
use Rattle.flac_jobs.specs.Kinds.{file_kind}

-- four bytes decide
four_decide : (front rest : List ℕ) → length front ≡ 4 → file_kind (front ++ rest) ≡ file_kind front
unfolding file_kind
four_decide front rest four =
    let more : 4 ≤ length front = omega arith in
    let enough : 3 ≤ length front = omega arith in
    let e4 : take 4 (front ++ rest) ≡ take 4 front = take-append-le 4 front rest more in
    let e3 : take 3 (front ++ rest) ≡ take 3 front = take-append-le 3 front rest enough in
    rw (e4, e3) refl

-- so do fewer, if no more come
kind_of_front : (front rest : List ℕ) → length front ≤ 4 → (length front < 4 → rest ≡ []) → file_kind (front ++ rest) ≡ file_kind front
kind_of_front front rest few none = elim (eq-or-lt_of_le few) [
  | inl four ↦ four_decide front rest four
  | inr fewer ↦ ap (λ (r : List ℕ). file_kind (front ++ r)) (none fewer) ∙ ap file_kind (append-nil front)
]

-- so what is judged of the first n of four places, which were filled, is so of all bytes
pub kind_read : (any : Bool) (n : ℕ) (places bytes rest : List ℕ) (r : Bool) → r ≡ (not any && is_some (file_kind (take n places))) → 4 ≤ length places → n ≤ 4
    → bytes ≡ take n places ++ rest → (n < 4 → rest ≡ []) → r ≡ (not any && is_some (file_kind bytes))
kind_read any n places bytes rest r is room few all none =
    let fits : n ≤ length places = omega arith in
    let many : length (take n places) ≡ n = length-take-le n places fits in
    let same : file_kind (take n places ++ rest) ≡ file_kind (take n places) = kind_of_front (take n places) rest (omega (arith, many)) (λ fewer. none (omega (arith, many, fewer))) in
    is ∙ ap (λ k. not any && is_some k) (sym same ∙ ap file_kind (sym all))
