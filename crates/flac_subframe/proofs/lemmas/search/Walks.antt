-- Parameters are tried from a middle one downwards and upwards, as long as one of the finest partitions gains by it: so
-- none that is left out costs less.
use Rattle.std.proofs.Common.{◌≡◌, inl, inr, refl, ℕ, zero, suc, ◌+◌, ◌-◌, ◌*◌, ◌/◌, ◌^◌, ◌≤◌, ◌<◌, arith, ℤ, List, [], ◌∷◌, ◌++◌, length, map, take, drop, All, min}
use Rattle.std.specs.List.{sum_by}
use Rattle.std.proofs.lemmas.Bool.{cases_lt}
use Rattle.std.proofs.lemmas.List.Elements.{All-take, All-drop, All-get_or, All-tail}
use Rattle.std.proofs.lemmas.List.Sums.{sum_by-append, sum_by-cons}
use Rattle.std.proofs.lemmas.Nat.{pow_pos}
use Rattle.std.proofs.Math.Nat.{div-lt_iff_lt-mul}
use Rattle.flac_bits.specs.Rice.{IsResidual, folded}
use Rattle.flac_subframe.specs.format.inner.Cost.{folded_cost, value_cost}
use Rattle.flac_subframe.specs.search.inner.Entry.{entry_number, no_entry}
use Rattle.flac_subframe.specs.search.inner.Halves.{part, start, Halves, entry, LeastBelow}
use Rattle.flac_subframe.proofs.lemmas.search.Folds.{segment_cost}
use Rattle.flac_subframe.proofs.lemmas.search.Convex.{no_less_after, more_before, last_no_more, next_less}
use Rattle.flac_subframe.proofs.lemmas.search.Splits.{part_splits, coarser, part_small, power_more}

-- the number is the least of the Rice parameters from low on and below high; where there are none it is the greatest
pub record LeastWithin (low high : ℕ) (rs : List ℤ) (e : ℕ) : Type 0 where
  pub none : high ≤ low → e ≡ no_entry
  pub some : low < high → (n : ℕ) × (low ≤ n) × (n < high) × (e ≡ entry_number n (sum_by (value_cost n) rs))
  pub least : (n : ℕ) → low ≤ n → n < high → e ≤ entry_number n (sum_by (value_cost n) rs)

pub within_none : (k : ℕ) (rs : List ℤ) (e : ℕ) → e ≡ no_entry → LeastWithin k k rs e
within_none k rs e is = record { none = λ h. is; some = λ h. absurd (omega arith); least = λ n h g. absurd (omega arith) }

pub within_all : (high : ℕ) (rs : List ℤ) (e : ℕ) → LeastWithin 0 high rs e → LeastBelow high rs e
within_all high rs e so = record {
  none = λ h. so.none (omega arith);
  some = λ h. let was = so.some h in (was.0, was.2, was.3);
  least = λ n h. so.least n (omega arith) h;
}

-- one parameter more, below those that were tried
pub within_more : (k high : ℕ) (rs : List ℤ) (old : ℕ) → k < high → sum_by (value_cost k) rs < 2 ^ 50 → k < 32 → LeastWithin (k + 1) high rs old → LeastWithin k high rs (min old (entry_number k (sum_by (value_cost k) rs)))
within_more k high rs old lt small few so =
    let c = sum_by (value_cost k) rs in
    let same : (m : ℕ) → k ≤ m → m < k + 1 → entry_number m (sum_by (value_cost m) rs) ≡ entry_number k c = λ m g h. let e : m ≡ k = omega arith in rw e refl in
    elim (cases_lt (entry_number k c) old) [
      | inl b ↦
          let e : min old (entry_number k c) ≡ entry_number k c = omega (arith, b) in
          rw e (record {
            none = λ z. absurd (omega arith);
            some = λ _. (k, omega arith, lt, refl);
            least = λ m g h. elim (cases_lt m (k + 1)) [ inl d ↦ omega (arith, same m g d) | inr d ↦ omega (arith, b, so.least m d h) ];
          })
      | inr b ↦
          let some : k + 1 < high = elim (cases_lt (k + 1) high) [ inl d ↦ d | inr d ↦ absurd (omega (arith, b, small, few, so.none d)) ] in
          let e : min old (entry_number k c) ≡ old = omega (arith, b) in
          rw e (record {
            none = λ z. absurd (omega arith);
            some = λ _. let was = so.some some in (was.0, omega (arith, was.1), was.2, was.3);
            least = λ m g h. elim (cases_lt m (k + 1)) [ inl d ↦ omega (arith, b, same m g d) | inr d ↦ so.least m d h ];
          })
    ]

doubled : (m : ℕ) → 2 ^ (m + 1) ≡ 2 * 2 ^ m
doubled m = let e : m + 1 - 1 ≡ m = omega arith in rw e at (power_more (m + 1) (omega arith))

-- what holds of each of the finest partitions, and of two joined where it holds of both, holds of all
module _ (order : ℕ) (rs : List ℤ) (P : List ℤ → Type 0) (joins : (xs ys : List ℤ) → P xs → P ys → P (xs ++ ys)) where
  up_to : (n p : ℕ) → Halves order rs (n + p) → ((j : ℕ) → j < 2 ^ (n + p) → P (part order rs (n + p) j)) → (j : ℕ) → j < 2 ^ p → P (part order rs p j)
  up_to zero p half leaves j h =
      let e : 0 + p ≡ p = omega arith in
      let one : P (part order rs (0 + p) j) = leaves j (rw e h) in
      rw e at one
  up_to (suc n) p half leaves j h =
      let e : suc n + p ≡ n + p + 1 = omega arith in
      let half' : Halves order rs (n + p + 1) = rw e at half in
      let leaves' : (i : ℕ) → i < 2 ^ (n + p + 1) → P (part order rs (n + p + 1) i) = rw e at leaves in
      up_to n p (coarser order rs (n + p) half') (λ i b.
      rw (part_splits order rs (n + p) i half') (joins (part order rs (n + p + 1) (2 * i)) (part order rs (n + p + 1) (2 * i + 1)) (leaves' (2 * i) (omega (arith, doubled (n + p), b))) (leaves' (2 * i + 1) (omega (arith, doubled (n + p), b))))) j h

  pub of_all : (h p : ℕ) → p ≤ h → Halves order rs h → ((j : ℕ) → j < 2 ^ h → P (part order rs h j)) → (j : ℕ) → j < 2 ^ p → P (part order rs p j)
  of_all h p le half leaves =
      let e : h - p + p ≡ h = omega arith in
      up_to (h - p) p (rw e half) (rw e leaves)

module _ (order h k : ℕ) (rs : List ℤ) (half : Halves order rs h) (few : length rs ≤ 65535) (small : k < 31) (all : All IsResidual rs) (old : List ℕ)
    (kept : (j : ℕ) → j < 2 ^ h → entry old h j ≤ entry_number k (sum_by (value_cost k) (part order rs h j))) where
  below : (p j : ℕ) → sum_by (value_cost k) (part order rs p j) < 2 ^ 50
  below p j = part_small order k rs p j small few all

  -- upwards: the parameter k gains nothing for the finest partitions, so no higher one gains anything
  module _ (leaves : (j : ℕ) → j < 2 ^ h → LeastBelow k (part order rs h j) (entry old h j)) where
    leaf_rises : (l : ℕ) → k ≤ l → (j : ℕ) → j < 2 ^ h → sum_by (value_cost k) (part order rs h j) ≤ sum_by (value_cost l) (part order rs h j)
    leaf_rises l g j b =
        let so = leaves j b in
        let some : 0 < k = elim (cases_lt 0 k) [ inl c ↦ c | inr c ↦ absurd (omega (arith, kept j b, below h j, small, so.none (omega arith))) ] in
        let was = so.some some in
        no_less_after (part order rs h j) was.0 k l was.1 (omega (arith, kept j b, was.1, was.2, small)) g

    rises : (l : ℕ) → k ≤ l → (p j : ℕ) → p ≤ h → j < 2 ^ p → sum_by (value_cost k) (part order rs p j) ≤ sum_by (value_cost l) (part order rs p j)
    rises l g p j le b = of_all order rs (λ xs. sum_by (value_cost k) xs ≤ sum_by (value_cost l) xs) (λ xs ys a c. omega (arith, a, c, sum_by-append (value_cost k) xs ys, sum_by-append (value_cost l) xs ys)) h p le half (leaf_rises l g) j b

    pub settled : (p j e m : ℕ) → p ≤ h → j < 2 ^ p → k < m → LeastBelow (k + 1) (part order rs p j) e → LeastBelow m (part order rs p j) e
    settled p j e m le b more so = record {
      none = λ z. absurd (omega arith);
      some = λ z. let was = so.some (omega arith) in (was.0, omega (arith, was.1, more), was.2);
      least = λ n c. elim (cases_lt n (k + 1)) [
        | inl d ↦ so.least n d
        | inr d ↦ omega (arith, so.least k (omega arith), rises n (omega arith) p j le b)
      ];
    }

    leaf_before : (j : ℕ) → j < 2 ^ h → sum_by (value_cost (k - 1)) (part order rs h j) ≤ sum_by (value_cost k) (part order rs h j)
    leaf_before j b =
        let so = leaves j b in
        let some : 0 < k = elim (cases_lt 0 k) [ inl c ↦ c | inr c ↦ absurd (omega (arith, kept j b, below h j, small, so.none (omega arith))) ] in
        let was = so.some some in
        last_no_more (part order rs h j) was.0 k was.1 (omega (arith, kept j b, was.1, was.2, small))

    before : (p j : ℕ) → p ≤ h → j < 2 ^ p → sum_by (value_cost (k - 1)) (part order rs p j) ≤ sum_by (value_cost k) (part order rs p j)
    before p j le b = of_all order rs (λ xs. sum_by (value_cost (k - 1)) xs ≤ sum_by (value_cost k) xs) (λ xs ys a c. omega (arith, a, c, sum_by-append (value_cost (k - 1)) xs ys, sum_by-append (value_cost k) xs ys)) h p le half leaf_before j b

    some_before : 0 < k
    some_before =
        let so = leaves 0 (pow_pos h) in
        elim (cases_lt 0 k) [ inl c ↦ c | inr c ↦ absurd (omega (arith, kept 0 (pow_pos h), below h 0, small, so.none (omega arith))) ]

    -- nor does it gain anything for a coarser one
    pub kept_by : (p j : ℕ) → p ≤ h → j < 2 ^ p → LeastBelow k (part order rs p j) (entry old p j) → LeastBelow (k + 1) (part order rs p j) (entry old p j)
    kept_by p j le b so = record {
      none = λ z. absurd (omega arith);
      some = λ z. let was = so.some some_before in (was.0, omega (arith, was.1), was.2);
      least = λ n c. elim (cases_lt n k) [
        | inl d ↦ so.least n d
        | inr d ↦ let e : n ≡ k = omega arith in rw e (omega (arith, so.least (k - 1) (omega (arith, some_before)), before p j le b))
      ];
    }

  -- downwards: the parameter k gains nothing for the finest partitions, so no lower one gains anything
  module _ (high : ℕ) (leaves : (j : ℕ) → j < 2 ^ h → LeastWithin (k + 1) high (part order rs h j) (entry old h j)) where
    leaf_falls : (m : ℕ) → m < k → (j : ℕ) → j < 2 ^ h → sum_by (value_cost k) (part order rs h j) < sum_by (value_cost m) (part order rs h j)
    leaf_falls m g j b =
        let so = leaves j b in
        let some : k + 1 < high = elim (cases_lt (k + 1) high) [ inl c ↦ c | inr c ↦ absurd (omega (arith, kept j b, below h j, small, so.none c)) ] in
        let was = so.some some in
        more_before (part order rs h j) m k was.0 g (omega (arith, was.1)) (omega (arith, kept j b, was.1, was.3))

    falls : (m : ℕ) → m < k → (p j : ℕ) → p ≤ h → j < 2 ^ p → sum_by (value_cost k) (part order rs p j) < sum_by (value_cost m) (part order rs p j)
    falls m g p j le b = of_all order rs (λ xs. sum_by (value_cost k) xs < sum_by (value_cost m) xs) (λ xs ys a c. omega (arith, a, c, sum_by-append (value_cost k) xs ys, sum_by-append (value_cost m) xs ys)) h p le half (leaf_falls m g) j b

    pub fallen : (p j e : ℕ) → p ≤ h → j < 2 ^ p → k < high → LeastWithin k high (part order rs p j) e → LeastBelow high (part order rs p j) e
    fallen p j e le b lt so = record {
      none = λ z. absurd (omega arith);
      some = λ z. let was = so.some lt in (was.0, was.2, was.3);
      least = λ n c. elim (cases_lt n k) [
        | inl d ↦ omega (arith, so.least k (omega arith) lt, falls n d p j le b, small)
        | inr d ↦ so.least n d c
      ];
    }

    leaf_next : (j : ℕ) → j < 2 ^ h → sum_by (value_cost (k + 1)) (part order rs h j) < sum_by (value_cost k) (part order rs h j)
    leaf_next j b =
        let so = leaves j b in
        let some : k + 1 < high = elim (cases_lt (k + 1) high) [ inl c ↦ c | inr c ↦ absurd (omega (arith, kept j b, below h j, small, so.none c)) ] in
        let was = so.some some in
        next_less (part order rs h j) k was.0 (omega (arith, was.1)) (omega (arith, kept j b, was.1, was.3))

    next : (p j : ℕ) → p ≤ h → j < 2 ^ p → sum_by (value_cost (k + 1)) (part order rs p j) < sum_by (value_cost k) (part order rs p j)
    next p j le b = of_all order rs (λ xs. sum_by (value_cost (k + 1)) xs < sum_by (value_cost k) xs) (λ xs ys a c. omega (arith, a, c, sum_by-append (value_cost (k + 1)) xs ys, sum_by-append (value_cost k) xs ys)) h p le half leaf_next j b

    some_next : k + 1 < high
    some_next =
        let so = leaves 0 (pow_pos h) in
        elim (cases_lt (k + 1) high) [ inl c ↦ c | inr c ↦ absurd (omega (arith, kept 0 (pow_pos h), below h 0, small, so.none c)) ]

    -- nor does it gain anything for a coarser one
    pub kept_down : (p j : ℕ) → p ≤ h → j < 2 ^ p → LeastWithin (k + 1) high (part order rs p j) (entry old p j) → LeastWithin k high (part order rs p j) (entry old p j)
    kept_down p j le b so = record {
      none = λ z. absurd (omega (arith, some_next));
      some = λ z. let was = so.some some_next in (was.0, omega (arith, was.1), was.2, was.3);
      least = λ n g c. elim (cases_lt k n) [
        | inl d ↦ so.least n (omega arith) c
        | inr d ↦ let e : n ≡ k = omega arith in rw e (omega (arith, so.least (k + 1) (omega arith) some_next, next p j le b))
      ];
    }

-- ---- above the width of the values no parameter gains anything

none_above : (n w k : ℕ) → w ≤ k → n < 2 ^ w → folded_cost w n ≤ folded_cost k n
none_above n w k le lt =
    let none : n / 2 ^ w < 1 = (div-lt_iff_lt-mul {k = 2 ^ w} {x = n} {y = 1} (pow_pos w)).1 (omega arith) in
    omega (arith, none)

costs_above : (w k : ℕ) (ns : List ℕ) → w ≤ k → All (λ n. n < 2 ^ w) ns → sum_by (folded_cost w) ns ≤ sum_by (folded_cost k) ns
costs_above w k [] le all = omega arith
costs_above w k (n ∷ ns) le all =
    let first : n < 2 ^ w = All-get_or (λ m. m < 2 ^ w) (n ∷ ns) 0 0 (omega arith) all in
    omega (arith, sum_by-cons (folded_cost w) n ns, sum_by-cons (folded_cost k) n ns, none_above n w k le first, costs_above w k ns le (All-tail (λ m. m < 2 ^ w) n ns all))

-- so the number for a partition, if the width was tried, is not above any of theirs
pub kept_above : (order h w k : ℕ) (rs : List ℤ) (ns : List ℕ) → ns ≡ map folded rs → All (λ n. n < 2 ^ w) ns → w < k → (j e : ℕ) → LeastBelow k (part order rs h j) e → e ≤ entry_number k (sum_by (value_cost k) (part order rs h j))
unfolding part
kept_above order h w k rs ns is all lt j e so =
    let a : ℕ = start order (length rs + order) h j in
    let b : ℕ = start order (length rs + order) h (j + 1) in
    let own = costs_above w k (take (b - a) (drop a ns)) (omega arith) (All-take (λ n. n < 2 ^ w) (b - a) (drop a ns) (All-drop (λ n. n < 2 ^ w) a ns all)) in
    omega (arith, lt, so.least w lt, own, segment_cost w a b rs ns is, segment_cost k a b rs ns is)

pub settled_above : (order h w k m : ℕ) (rs : List ℤ) (ns : List ℕ) → Halves order rs h → length rs ≤ 65535 → k < 31 → All IsResidual rs → ns ≡ map folded rs → All (λ n. n < 2 ^ w) ns → w < k → k < m → (old : List ℕ)
    → ((p j : ℕ) → p ≤ h → j < 2 ^ p → LeastBelow k (part order rs p j) (entry old p j)) → (p j : ℕ) → p ≤ h → j < 2 ^ p → LeastBelow m (part order rs p j) (entry old p j)
settled_above order h w k m rs ns half few small range is all above more old so p j le b =
    let none : (i : ℕ) → i < 2 ^ h → entry old h i ≤ entry_number k (sum_by (value_cost k) (part order rs h i)) = λ i d. kept_above order h w k rs ns is all above i (entry old h i) (so h i (omega arith) d) in
    let leaves : (i : ℕ) → i < 2 ^ h → LeastBelow k (part order rs h i) (entry old h i) = λ i d. so h i (omega arith) d in
    settled order h k rs half few small range old none leaves p j (entry old p j) m le b more (kept_by order h k rs half few small range old none leaves p j le b (so p j le b))
