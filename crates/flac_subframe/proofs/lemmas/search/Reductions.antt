-- What the lanes of a vector come to: their sum, and their bits together.
use Rattle.std.proofs.Common.{◌≡◌, refl, ℕ, ◌+◌, ◌/◌, ◌^◌, ◌≤◌, ◌<◌, ◌↔◌, arith, List, [], ◌∷◌, length, get_or, map, All, bit_or}
use Rattle.std.specs.List.{sum_by}
use Rattle.std.specs.Simd.Lanes.{sum_l, fold_l}
use Rattle.std.proofs.lemmas.List.Sums.{sum_by-cons, sum_by-le}
use Rattle.std.proofs.lemmas.List.Elements.{All-nil, All-cons, All-head, All-tail}
use Rattle.std.proofs.lemmas.Nat.{or_lt, le_or_l, le_or_r}
use Rattle.flac_subframe.proofs.lemmas.search.Bounded.{quotient_small}

pub sum_of_map : (f : ℕ → ℕ) (xs : List ℕ) → sum_l (map f xs) ≡ sum_by f xs
sum_of_map f [] = refl
sum_of_map f (x ∷ xs) = omega (arith, sum_of_map f xs, sum_by-cons f x xs)

pub or_below : (k a : ℕ) (xs : List ℕ) → (((a < 2 ^ k) × All (λ n. n < 2 ^ k) xs) ↔ (fold_l bit_or a xs < 2 ^ k))
or_below k a [] = (λ h. h.0, λ h. (h, All-nil (λ n. n < 2 ^ k)))
or_below k a (x ∷ xs) =
    let rest = or_below k (bit_or a x) xs in (
      λ h. rest.0 (or_lt k a x h.0 (All-head (λ n. n < 2 ^ k) x xs h.1), All-tail (λ n. n < 2 ^ k) x xs h.1),
      λ h.
          let both = rest.1 h in (
            omega (arith, both.0, le_or_l a x),
            All-cons (λ n. n < 2 ^ k) x xs (omega (arith, both.0, le_or_r a x)) both.1,
          ),
    )

-- the sum of at most sixteen quotients of at most 28 bits, which fits 32 bits
pub quotients_fit : (ns : List ℕ) (w k : ℕ) → length ns ≤ 16 → All (λ n. n < 2 ^ w) ns → w ≤ 28 + k → 0 + sum_l (map (λ n. n / 2 ^ k) ns) < 2 ^ 32
quotients_fit ns w k long all few =
    let each : All (λ n. n / 2 ^ k ≤ 268435455) ns = λ i d h. omega (arith, quotient_small (get_or ns i d) w k (all i d h) few) in
    omega (arith, sum_of_map (λ n. n / 2 ^ k) ns, sum_by-le (λ n. n / 2 ^ k) 268435455 ns each, long)
