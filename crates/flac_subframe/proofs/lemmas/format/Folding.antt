-- Values folded one after another.
use Rattle.std.proofs.Common.{◌≡◌, ◌∙◌, sym, ap, ℕ, ◌+◌, ◌<◌, arith, ℤ, pos, List, [], ◌∷◌, length, map, take, get_or, set}
use Rattle.std.specs.List.{range_with_len}
use Rattle.std.proofs.lemmas.List.{take_more, take_more_set, map-append}
use Rattle.std.proofs.lemmas.List.FromFn.{map-range_with_len_more}
use Rattle.flac_bits.specs.Rice.{folded}

-- one number more
pub fold_more : (rs : List ℤ) (ns : List ℕ) (i n : ℕ) → i < length rs → length ns ≡ length rs → n ≡ folded (get_or rs i (pos 0)) → take i ns ≡ map folded (take i rs) → take (i + 1) (set ns i n) ≡ map folded (take (i + 1) rs)
fold_more rs ns i n lt long is same =
    take_more_set ns i n (omega (arith, long, lt)) ∙ rw (same, is) (sym (map-append folded (take i rs) (get_or rs i (pos 0) ∷ []))) ∙ ap (λ k. map folded k) (sym (take_more rs i (pos 0) lt))

pub fold_next : (f : ℕ → ℤ) (ns : List ℕ) (j n : ℕ) → j < length ns → n ≡ folded (f j) → take j ns ≡ map folded (map f (range_with_len 0 j)) → take (j + 1) (set ns j n) ≡ map folded (map f (range_with_len 0 (j + 1)))
fold_next f ns j n lt is so =
    take_more_set ns j n lt ∙ rw (so, is) (sym (map-append folded (map f (range_with_len 0 j)) (f j ∷ []))) ∙ ap (λ (k : List ℤ). map folded k) (sym (map-range_with_len_more f 0 j j (omega arith)))

-- the same number once more
pub same_more : (rs out : List ℤ) (i : ℕ) (v : ℤ) → i < length rs → length out ≡ length rs → v ≡ get_or rs i (pos 0) → take i out ≡ take i rs → take (i + 1) (set out i v) ≡ take (i + 1) rs
same_more rs out i v lt long is same = take_more_set out i v (omega (arith, long, lt)) ∙ rw (same, is) (sym (take_more rs i (pos 0) lt))
