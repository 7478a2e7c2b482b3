-- The shift that brings a number of 16 or more to 16 and more, below 32.
use Rattle.std.proofs.Common.{◌≡◌, inl, inr, ℕ, ◌+◌, ◌-◌, ◌*◌, ◌/◌, ◌^◌, ◌≤◌, ◌<◌, arith, ℤ, List, length, map}
use Rattle.std.specs.List.{sum_by}
use Rattle.std.specs.Int.Count.{count_leading_zeros}
use Rattle.std.proofs.lemmas.Bool.{cases_lt}
use Rattle.std.proofs.lemmas.List.{length-map}
use Rattle.std.proofs.lemmas.Nat.{leading_length, pow-add, pow_pos}
use Rattle.std.proofs.Math.Nat.{pow-le-pow_right, le-div_iff_mul-le, div-lt_iff_lt-mul}
use Rattle.flac_subframe.specs.format.inner.Cost.{value_cost}
use Rattle.flac_bits.specs.Rice.{folded}
use Rattle.flac_subframe.proofs.lemmas.search.Folds.{cost_split, costs_folded}

module _ (n : ℕ) (some : 16 ≤ n) (within : n < 2 ^ 64) where
  pub few_zeros : count_leading_zeros 64 n ≤ 59
  few_zeros =
      let top = leading_length 64 n within in
      let m : ℕ = top.0 in
      let is : count_leading_zeros 64 n + m ≡ 64 = top.1 in
      let below : n < 2 ^ m = top.2 in
      elim (cases_lt m 5) [
        | inl b ↦ let less : 2 ^ m ≤ 2 ^ 4 = pow-le-pow_right {n = 2} (omega arith) {i = m} {j = 4} (omega arith) in absurd (omega (arith, below, less, some))
        | inr b ↦ omega (arith, is, b)
      ]

  pub brought : (16 ≤ n / 2 ^ (59 - count_leading_zeros 64 n)) × (n / 2 ^ (59 - count_leading_zeros 64 n) < 32)
  brought =
      let top = leading_length 64 n within in
      let m : ℕ = top.0 in
      let k : ℕ = 59 - count_leading_zeros 64 n in
      let is : count_leading_zeros 64 n + m ≡ 64 = top.1 in
      let e : 5 + k ≡ m = omega (arith, is, few_zeros) in
      let twice : 2 ^ (5 + k) ≡ 2 ^ 5 * 2 ^ k = pow-add 2 5 k in
      let below : n < 2 ^ (5 + k) = rw e top.2 in
      let reaches : 2 ^ (5 + k) ≤ 2 * n + 1 = rw e top.3 in
      let positive = pow_pos k in
      ((le-div_iff_mul-le positive).1 (omega (arith, twice, reaches)), (div-lt_iff_lt-mul positive).1 (omega (arith, twice, below)))

-- a value takes a bit at least
pub one_each : (rs : List ℤ) → length rs ≤ sum_by (value_cost 0) rs
one_each rs = omega (arith, cost_split 0 (map folded rs), costs_folded 0 rs, length-map rs folded)
