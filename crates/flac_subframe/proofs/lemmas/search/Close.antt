-- What values take at least under any parameter, where the sum of their quotients falls below their count between two
-- parameters.
use Rattle.std.proofs.Common.{◌≡◌, inl, inr, ℕ, zero, suc, ◌+◌, ◌-◌, ◌*◌, ◌/◌, ◌^◌, ◌≤◌, arith, ℤ, List, [], ◌∷◌, length, map, min}
use Rattle.std.specs.List.{sum_by}
use Rattle.std.proofs.lemmas.List.Sums.{sum_by-cons}
use Rattle.std.proofs.lemmas.Nat.{shr-shr, mul-le}
use Rattle.std.proofs.lemmas.Bool.{cases_lt}
use Rattle.std.proofs.Math.Nat.{mul_comm}
use Rattle.flac_subframe.specs.format.inner.Cost.{folded_cost, value_cost}
use Rattle.flac_bits.specs.Rice.{folded}
use Rattle.flac_subframe.proofs.lemmas.search.Folds.{cost_split, costs_folded}

abbrev quotients : ℕ → List ℕ → ℕ
quotients k ns = sum_by (λ n. n / 2 ^ k) ns

-- one bit fewer left out at least doubles the quotients
doubled : (k : ℕ) (ns : List ℕ) → 2 * quotients (k + 1) ns ≤ quotients k ns
doubled k [] = omega arith
doubled k (n ∷ ns) =
    let e : n / 2 ^ k / 2 ≡ n / 2 ^ (k + 1) = shr-shr n k 1 in
    omega (arith, sum_by-cons (λ n. n / 2 ^ k) n ns, sum_by-cons (λ n. n / 2 ^ (k + 1)) n ns, doubled k ns, e)

together : (n m l k : ℕ) → m + l ≡ k → m * n + n * (1 + l) ≡ n * (1 + k)
together n m l k e = rw (← e, mul_comm m n) (omega arith)

-- where the quotients under a parameter are as many as the values, those under each lower one are so many more
module _ (ns : List ℕ) where
  lower : (m l : ℕ) → length ns ≤ quotients (m + l) ns → quotients (m + l) ns + m * length ns ≤ quotients l ns
  lower zero l some = let e : zero + l ≡ l = omega arith in rw e (omega arith)
  lower (suc m) l some =
      let e : suc m + l ≡ m + l + 1 = omega arith in
      let some' : length ns ≤ quotients (m + l + 1) ns = rw e at some in
      let two = doubled (m + l) ns in
      let rest = lower m l (omega (arith, some', two)) in
      rw e (omega (arith, rest, two, some'))

  module _ (k low high : ℕ) (low_is : low ≡ quotients k ns) (high_is : high ≡ quotients (k + 1) ns) (some : length ns ≤ low) (few : high ≤ length ns) where
    folds_at_least : (l : ℕ) → min (low + length ns * (1 + k)) (high + length ns * (2 + k)) ≤ sum_by (folded_cost l) ns
    folds_at_least l = elim (cases_lt k l) [
      | inr le ↦
          let e : k - l + l ≡ k = omega arith in
          let some' : length ns ≤ quotients (k - l + l) ns = rw e (omega (arith, some, low_is)) in
          let less : quotients k ns + (k - l) * length ns ≤ quotients l ns = rw e at (lower (k - l) l some') in
          let same : (k - l) * length ns + length ns * (1 + l) ≡ length ns * (1 + k) = together (length ns) (k - l) l k e in
          omega (arith, low_is, less, same, cost_split l ns)
      | inl lt ↦ elim (cases_lt (k + 1) l) [
        | inr le ↦
            let e : l ≡ k + 1 = omega arith in
            rw e (omega (arith, high_is, cost_split (k + 1) ns))
        | inl more ↦
            let a : length ns * (3 + k) ≤ length ns * (1 + l) = mul-le (length ns) (3 + k) (length ns) (1 + l) (omega arith) (omega arith) in
            omega (arith, a, few, cost_split l ns)
      ]
    ]

pub close_at_least : (rs : List ℤ) (ns : List ℕ) (n k low high : ℕ) → ns ≡ map folded rs → n ≡ length ns → low ≡ sum_by (λ n. n / 2 ^ k) ns → high ≡ sum_by (λ n. n / 2 ^ (k + 1)) ns → n ≤ low → high ≤ n →
    (l : ℕ) → min (low + n * (1 + k)) (high + n * (2 + k)) ≤ sum_by (value_cost l) rs
close_at_least rs ns n k low high is long low_is high_is some few l =
    rw (← costs_folded l rs, ← is, long) (folds_at_least ns k low high low_is high_is (omega (arith, some, long)) (omega (arith, few, long)) l)
