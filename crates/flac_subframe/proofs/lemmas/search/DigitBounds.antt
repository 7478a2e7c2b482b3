-- What a residual takes at least at a partition order, by how many digits its values have.
use Rattle.std.proofs.Common.{◌≡◌, ◌∙◌, refl, sym, ap, ℕ, suc, ◌+◌, ◌-◌, ◌*◌, ◌/◌, ◌^◌, ◌≤◌, ◌<◌, arith, ℤ, List, [], ◌∷◌, length, map, take, drop, min, All}
use Rattle.std.specs.Int.Count.{count_leading_zeros}
use Rattle.std.specs.List.{sum_by}
use Rattle.std.proofs.lemmas.List.{take-append-drop, length-take-le, length-drop}
use Rattle.std.proofs.lemmas.List.Elements.{All-head, All-tail, All-take, All-drop}
use Rattle.std.proofs.lemmas.List.Sums.{sum_by-cons, sum_by-append}
use Rattle.std.proofs.lemmas.Nat.{pow-add, pow_pos, mul-le}
use Rattle.std.proofs.Math.Nat.{lt-div-mul-add, suc-mul}
use Rattle.flac_bits.specs.Rice.{IsResidual, folded}
use Rattle.flac_subframe.specs.declared.format.coding.Coding.{Coding}
use Rattle.flac_subframe.specs.declared.format.coding.Coding.TheVariants.{Rice, Escape}
use Rattle.flac_subframe.specs.format.Cost.{Codings, MayCode, MayCodeEach, MayWrite}
use Rattle.flac_subframe.specs.format.inner.Cost.{value_cost, coding_cost, partitions_cost, residual_cost}
use Rattle.flac_subframe.specs.format.Spelling.{FitsWidth}
use Rattle.flac_subframe.proofs.lemmas.search.Cuts.{cuts}
use Rattle.flac_subframe.proofs.lemmas.format.Digits.{below_from_fits, digits_least}
use Rattle.flac_subframe.proofs.lemmas.search.Folds.{fold_small}
use Rattle.flac_subframe.proofs.lemmas.search.LowerBounds.{grows, four_bits}

-- the digits of a number
abbrev digits : ℕ → ℕ
digits n = 63 - count_leading_zeros 64 (2 * n + 1)

abbrev value_digits : ℤ → ℕ
value_digits r = digits (folded r)

digits_within : (n m : ℕ) → n < 2 ^ 32 → n < 2 ^ m → digits n ≤ m
digits_within n m small below =
    let wide : 2 * n + 1 < 2 ^ 64 = omega arith in
    let twice : 2 * n + 1 < 2 ^ suc m = omega arith in
    omega (arith, (digits_least 64 (2 * n + 1) (suc m) wide).0 twice)

by_rice : (k : ℕ) (r : ℤ) → IsResidual r → value_digits r + 1 ≤ value_cost k r
by_rice k r range =
    let n : ℕ = folded r in
    let q : ℕ = n / 2 ^ k in
    let one : n < q * 2 ^ k + 2 ^ k = lt-div-mul-add (pow_pos k) in
    let more : (q + 1) * 2 ^ k ≤ 2 ^ q * 2 ^ k = mul-le (q + 1) (2 ^ k) (2 ^ q) (2 ^ k) (grows q) (omega arith) in
    let both : 2 ^ (q + k) ≡ 2 ^ q * 2 ^ k = pow-add 2 q k in
    let below : n < 2 ^ (q + k) = omega (arith, one, more, both) in
    omega (arith, digits_within n (q + k) (fold_small r range) below)

by_escape : (m : ℕ) (r : ℤ) → IsResidual r → FitsWidth m r → value_digits r ≤ m
by_escape m r range fit = digits_within (folded r) m (fold_small r range) (below_from_fits m r fit)

-- ---- of the values of a partition

rice_digits : (k : ℕ) (rs : List ℤ) → All IsResidual rs → sum_by value_digits rs + length rs ≤ sum_by (value_cost k) rs
rice_digits k [] all = omega arith
rice_digits k (r ∷ rs) all = omega (arith, sum_by-cons value_digits r rs, sum_by-cons (value_cost k) r rs, by_rice k r (All-head IsResidual r rs all), rice_digits k rs (All-tail IsResidual r rs all))

escape_digits : (m : ℕ) (rs : List ℤ) → All IsResidual rs → All (FitsWidth m) rs → sum_by value_digits rs ≤ m * length rs
escape_digits m [] all fit = omega arith
escape_digits m (r ∷ rs) all fit = omega (arith, sum_by-cons value_digits r rs, by_escape m r (All-head IsResidual r rs all) (All-head (FitsWidth m) r rs fit), escape_digits m rs (All-tail IsResidual r rs all) (All-tail (FitsWidth m) r rs fit))

coding_digits : (w : ℕ) (c : Coding) (rs : List ℤ) → All IsResidual rs → MayCode w rs c → sum_by value_digits rs + min 5 (length rs) ≤ coding_cost c rs
coding_digits w (Rice k) rs all may = omega (arith, rice_digits k rs all)
coding_digits w (Escape m) rs all may = omega (arith, escape_digits m rs all may.1)

-- ---- of partitions

digits_cut : (n : ℕ) (rs : List ℤ) → sum_by value_digits rs ≡ sum_by value_digits (take n rs) + sum_by value_digits (drop n rs)
digits_cut n rs = ap (λ (l : List ℤ). sum_by value_digits l) (sym (take-append-drop n rs)) ∙ sum_by-append value_digits (take n rs) (drop n rs)

module _ (w size : ℕ) (four : 4 ≤ w) where
  equal_parts : (rs : List ℤ) (cs : List Coding) → length rs ≡ length cs * size → All IsResidual rs → MayCodeEach w size size rs cs → sum_by value_digits rs + length cs * (4 + min 5 size) ≤ partitions_cost w size size rs cs
  unfolding partitions_cost
  equal_parts [] [] long all may = omega arith
  equal_parts (r ∷ rs) [] long all may = absurd (omega (arith, long))
  equal_parts rs (c ∷ cs) long all may =
      let here : length rs ≡ size + length cs * size = omega (arith, long, suc-mul (length cs) size) in
      let front : length (take size rs) ≡ size = length-take-le size rs (omega (arith, here)) in
      let back : length (drop size rs) ≡ length rs - size = length-drop size rs in
      let rest = equal_parts (drop size rs) cs (omega (arith, back, here)) (All-drop IsResidual size rs all) may.1 in
      let one = coding_digits w c (take size rs) (All-take IsResidual size rs all) may.0 in
      omega (arith, one, rest, front, back, here, digits_cut size rs, suc-mul (length cs) (4 + min 5 size))

  all_parts : (first : ℕ) (rs : List ℤ) (cs : List Coding) → 0 < length cs → length rs + size ≡ first + length cs * size → All IsResidual rs → MayCodeEach w first size rs cs
      → sum_by value_digits rs + length cs * (4 + min 5 size) + min 5 first ≤ partitions_cost w first size rs cs + min 5 size
  unfolding partitions_cost
  all_parts first rs [] some long all may = absurd (omega (arith, some))
  all_parts first rs (c ∷ cs) some long all may =
      let here : length rs ≡ first + length cs * size = omega (arith, long, suc-mul (length cs) size) in
      let front : length (take first rs) ≡ first = length-take-le first rs (omega (arith, here)) in
      let back : length (drop first rs) ≡ length rs - first = length-drop first rs in
      let rest = equal_parts (drop first rs) cs (omega (arith, back, here)) (All-drop IsResidual first rs all) may.1 in
      let one = coding_digits w c (take first rs) (All-take IsResidual first rs all) may.0 in
      omega (arith, one, rest, front, back, here, digits_cut first rs, suc-mul (length cs) (4 + min 5 size))

digits_folded : (rs : List ℤ) → sum_by digits (map folded rs) ≡ sum_by value_digits rs
digits_folded [] = refl
digits_folded (r ∷ rs) = omega (arith, sum_by-cons digits (folded r) (map folded rs), sum_by-cons value_digits r rs, digits_folded rs)

pub digits_at_least : (most order p : ℕ) (rs : List ℤ) (ns : List ℕ) (n : ℕ) → ns ≡ map folded rs → All IsResidual rs → n ≡ sum_by (λ n. 63 - count_leading_zeros 64 (2 * n + 1)) ns → (f : Codings) → MayWrite most order rs f → f.partition_order ≡ p
    → n + 6 + 2 ^ p * (4 + min 5 ((length rs + order) / 2 ^ p)) ≤ residual_cost order rs f + order
digits_at_least most order p rs ns n is range sum f m e =
    let w : ℕ = f.parameter_bits in
    let size : ℕ = (length rs + order) / 2 ^ f.partition_order in
    let some : 0 < length f.codings = omega (arith, m.each, pow_pos f.partition_order) in
    let all = all_parts w size (four_bits w m.method) (size - order) rs f.codings some (cuts most order rs f m) range m.codings in
    let here : n ≡ sum_by value_digits rs = sum ∙ ap (λ (l : List ℕ). sum_by digits l) is ∙ digits_folded rs in
    let each : length f.codings * (4 + min 5 size) ≡ 2 ^ f.partition_order * (4 + min 5 size) = ap (λ (k : ℕ). k * (4 + min 5 size)) m.each in
    rw (← e) (omega (arith, all, here, each))
