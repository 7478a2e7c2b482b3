-- The cost of values is convex in the parameter: where it rises it goes on rising, and where it falls it was greater
-- before.
use Rattle.std.proofs.Common.{◌≡◌, inl, inr, ℕ, zero, suc, ◌+◌, ◌-◌, ◌*◌, ◌/◌, ◌^◌, ◌≤◌, ◌<◌, arith, ℤ, List, [], ◌∷◌}
use Rattle.std.specs.List.{sum_by}
use Rattle.std.proofs.lemmas.List.Sums.{sum_by-cons}
use Rattle.std.proofs.lemmas.Nat.{shr-shr}
use Rattle.std.proofs.lemmas.Bool.{cases_lt}
use Rattle.flac_subframe.specs.format.inner.Cost.{value_cost}
use Rattle.flac_bits.specs.Rice.{folded}

quotients : (x k : ℕ) → 2 * (x / 2 ^ (k + 1) + 1 + (k + 1)) ≤ x / 2 ^ k + 1 + k + (x / 2 ^ (k + 2) + 1 + (k + 2))
quotients x k =
    let a : x / 2 ^ k / 2 ≡ x / 2 ^ (k + 1) = shr-shr x k 1 in
    let b : x / 2 ^ k / 2 ^ 2 ≡ x / 2 ^ (k + 2) = shr-shr x k 2 in
    omega arith

convex : (rs : List ℤ) (k : ℕ) → 2 * sum_by (value_cost (k + 1)) rs ≤ sum_by (value_cost k) rs + sum_by (value_cost (k + 2)) rs
convex [] k = omega arith
convex (r ∷ rs) k = omega (arith, sum_by-cons (value_cost k) r rs, sum_by-cons (value_cost (k + 1)) r rs, sum_by-cons (value_cost (k + 2)) r rs, convex rs k, quotients (folded r) k)

module _ (rs : List ℤ) where
  -- from a parameter on where one more does not cost less, none costs less
  rises : (b n : ℕ) → sum_by (value_cost b) rs ≤ sum_by (value_cost (b + 1)) rs → sum_by (value_cost (b + n)) rs ≤ sum_by (value_cost (b + n + 1)) rs
  rises b zero h = let e : b + zero ≡ b = omega arith in rw e h
  rises b (suc n) h =
      let e : b + suc n ≡ b + n + 1 = omega arith in
      let e₂ : b + n + 1 + 1 ≡ b + n + 2 = omega arith in
      rw (e, e₂) (omega (arith, rises b n h, convex rs (b + n)))

  no_less_above : (b m : ℕ) → sum_by (value_cost b) rs ≤ sum_by (value_cost (b + 1)) rs → sum_by (value_cost b) rs ≤ sum_by (value_cost (b + m)) rs
  no_less_above b zero h = let e : b + zero ≡ b = omega arith in rw e (omega arith)
  no_less_above b (suc m) h =
      let e : b + suc m ≡ b + m + 1 = omega arith in
      rw e (omega (arith, no_less_above b m h, rises b m h))

  -- where one parameter more costs less, each one before cost more
  falls : (n j : ℕ) → sum_by (value_cost (j + n + 1)) rs < sum_by (value_cost (j + n)) rs → sum_by (value_cost (j + 1)) rs < sum_by (value_cost j) rs
  falls zero j h = let e : j + zero ≡ j = omega arith in rw e at h
  falls (suc n) j h =
      let e : j + suc n ≡ j + n + 1 = omega arith in
      let e₂ : j + n + 1 + 1 ≡ j + n + 2 = omega arith in
      let h' = rw (e, e₂) at h in
      falls n j (omega (arith, h', convex rs (j + n)))

  dearer : (m j : ℕ) → sum_by (value_cost (j + m + 1)) rs < sum_by (value_cost (j + m)) rs → sum_by (value_cost (j + m)) rs ≤ sum_by (value_cost j) rs
  dearer zero j h = let e : j + zero ≡ j = omega arith in rw e (omega arith)
  dearer (suc m) j h =
      let e : j + suc m ≡ j + m + 1 = omega arith in
      let h' = rw e at h in
      let last : sum_by (value_cost (j + m + 1)) rs < sum_by (value_cost (j + m)) rs = falls 1 (j + m) h' in
      rw e (omega (arith, last, dearer m j last))

  -- one of two neighbours does not cost less, or it does
  next_no_less : (n k : ℕ) → n < k → sum_by (value_cost n) rs ≤ sum_by (value_cost k) rs → sum_by (value_cost k) rs ≤ sum_by (value_cost (k + 1)) rs
  next_no_less n k lt le = elim (cases_lt (sum_by (value_cost (k + 1)) rs) (sum_by (value_cost k) rs)) [
    | inl less ↦
        let e : n + (k - n) ≡ k = omega arith in
        let one : n + 1 + (k - n - 1) ≡ k = omega arith in
        let first : sum_by (value_cost (n + 1)) rs < sum_by (value_cost n) rs = falls (k - n) n (rw e less) in
        absurd (omega (arith, le, first, rw one at (dearer (k - n - 1) (n + 1) (rw one less))))
    | inr not ↦ not
  ]

  -- a parameter that costs no less than a lower one costs no more than those above it
  pub no_less_after : (n k l : ℕ) → n < k → sum_by (value_cost n) rs ≤ sum_by (value_cost k) rs → k ≤ l → sum_by (value_cost k) rs ≤ sum_by (value_cost l) rs
  no_less_after n k l lt le g =
      let e : k + (l - k) ≡ l = omega arith in
      rw e at (no_less_above k (l - k) (next_no_less n k lt le))

  -- a parameter that costs more than a higher one costs less than those below it
  pub more_before : (m k n : ℕ) → m < k → k < n → sum_by (value_cost n) rs < sum_by (value_cost k) rs → sum_by (value_cost k) rs < sum_by (value_cost m) rs
  more_before m k n lt g less =
      let above : k + (n - k) ≡ n = omega arith in
      let next : sum_by (value_cost (k + 1)) rs < sum_by (value_cost k) rs = elim (cases_lt (sum_by (value_cost (k + 1)) rs) (sum_by (value_cost k) rs)) [
        | inl is ↦ is
        | inr not ↦ absurd (omega (arith, less, rw above at (no_less_above k (n - k) not)))
      ] in
      let e : m + (k - m) ≡ k = omega arith in
      let one : m + 1 + (k - m - 1) ≡ k = omega arith in
      let first : sum_by (value_cost (m + 1)) rs < sum_by (value_cost m) rs = falls (k - m) m (rw e next) in
      omega (arith, first, rw one at (dearer (k - m - 1) (m + 1) (rw one next)))

  -- a parameter that costs no less than a lower one costs no less than the one before it
  pub last_no_more : (n k : ℕ) → n < k → sum_by (value_cost n) rs ≤ sum_by (value_cost k) rs → sum_by (value_cost (k - 1)) rs ≤ sum_by (value_cost k) rs
  last_no_more n k lt le = elim (cases_lt (sum_by (value_cost k) rs) (sum_by (value_cost (k - 1)) rs)) [
    | inl less ↦
        let e : n + (k - 1 - n) ≡ k - 1 = omega arith in
        let one : n + (k - 1 - n) + 1 ≡ k = omega arith in
        absurd (omega (arith, le, less, rw e at (dearer (k - 1 - n) n (rw (one, e) less))))
    | inr not ↦ not
  ]

  -- a parameter that costs more than a higher one costs more than the next
  pub next_less : (k n : ℕ) → k < n → sum_by (value_cost n) rs < sum_by (value_cost k) rs → sum_by (value_cost (k + 1)) rs < sum_by (value_cost k) rs
  next_less k n lt less = elim (cases_lt (sum_by (value_cost (k + 1)) rs) (sum_by (value_cost k) rs)) [
    | inl is ↦ is
    | inr not ↦ let above : k + (n - k) ≡ n = omega arith in absurd (omega (arith, less, rw above at (no_less_above k (n - k) not)))
  ]
