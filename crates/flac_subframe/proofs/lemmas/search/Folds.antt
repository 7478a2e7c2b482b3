-- Values by their folded numbers.
use Rattle.std.proofs.Common.{◌≡◌, ◌∙◌, sym, ap, refl, ℕ, ◌+◌, ◌-◌, ◌*◌, ◌/◌, ◌^◌, ◌<◌, ◌≤◌, ◌↔◌, arith, ℤ, pos, negsuc, List, [], ◌∷◌, length, map, take, drop, get_or, set, All}
use Rattle.std.specs.List.{sum_by, range_with_len}
use Rattle.std.proofs.lemmas.Int.{ints}
use Rattle.std.proofs.lemmas.List.{take_more, take_more_set, map-append, take-map, drop-map, length-map, get_or-map}
use Rattle.std.proofs.lemmas.List.Elements.{All-map, All-weaker, All-from_get_or, All-get_or}
use Rattle.std.proofs.lemmas.List.FromFn.{map-range_with_len_more}
use Rattle.std.proofs.lemmas.List.Sums.{sum_by-cons}
use Rattle.std.proofs.Math.Nat.{suc-mul}
use Rattle.flac_bits.specs.Rice.{IsResidual, folded}
use Rattle.flac_subframe.specs.format.inner.Cost.{folded_cost, value_cost}
use Rattle.flac_subframe.specs.search.inner.Halves.{segment, IsWidth}
use Rattle.flac_subframe.specs.format.Spelling.{FitsWidth}
use Rattle.flac_subframe.proofs.lemmas.format.Digits.{below_from_fits, fits_from_below}

pub fold_small : (z : ℤ) → IsResidual z → folded z < 2 ^ 32
fold_small (pos a) r = omega (arith, ints, r.high)
fold_small (negsuc a) r = omega (arith, ints, r.low)

pub folds_small : (rs : List ℤ) → All IsResidual rs → All (λ n. n < 2 ^ 32) (map folded rs)
folds_small rs all = All-map (λ n. n < 2 ^ 32) folded rs (All-weaker IsResidual (λ r. folded r < 2 ^ 32) fold_small rs all)

-- ---- of a part

segment_folded : (a b : ℕ) (rs : List ℤ) (ns : List ℕ) → ns ≡ map folded rs → take (b - a) (drop a ns) ≡ map folded (segment a b rs)
segment_folded a b rs ns is = rw is (ap (λ k. take (b - a) k) (drop-map folded a rs) ∙ take-map folded (b - a) (drop a rs))

pub costs_folded : (k : ℕ) (rs : List ℤ) → sum_by (folded_cost k) (map folded rs) ≡ sum_by (value_cost k) rs
costs_folded k [] = refl
costs_folded k (r ∷ rs) = omega (arith, sum_by-cons (folded_cost k) (folded r) (map folded rs), sum_by-cons (value_cost k) r rs, costs_folded k rs)

pub segment_cost : (k a b : ℕ) (rs : List ℤ) (ns : List ℕ) → ns ≡ map folded rs → sum_by (folded_cost k) (take (b - a) (drop a ns)) ≡ sum_by (value_cost k) (segment a b rs)
segment_cost k a b rs ns is = ap (λ l. sum_by (folded_cost k) l) (segment_folded a b rs ns is) ∙ costs_folded k (segment a b rs)

pub below_of : (n : ℕ) (rs : List ℤ) → All (FitsWidth n) rs → All (λ k. k < 2 ^ n) (map folded rs)
below_of n rs fit = All-map (λ k. k < 2 ^ n) folded rs (All-weaker (FitsWidth n) (λ r. folded r < 2 ^ n) (below_from_fits n) rs fit)

fits_of : (n : ℕ) (rs : List ℤ) → All (λ k. k < 2 ^ n) (map folded rs) → All (FitsWidth n) rs
fits_of n rs all = All-from_get_or (FitsWidth n) rs (pos 0) (λ i h.
    let below = All-get_or (λ k. k < 2 ^ n) (map folded rs) i 0 (omega (arith, h, length-map rs folded)) all in
    fits_from_below n (get_or rs i (pos 0)) (rw (get_or-map folded rs i (pos 0) 0 h) at below))

pub segment_width : (w a b : ℕ) (rs : List ℤ) (ns : List ℕ) → ns ≡ map folded rs → ((n : ℕ) → (All (λ k. k < 2 ^ n) (take (b - a) (drop a ns)) ↔ (w ≤ n))) → IsWidth (segment a b rs) w
segment_width w a b rs ns is h n =
    let both = rw (segment_folded a b rs ns is) at (h n) in
    (λ fit. both.0 (below_of n (segment a b rs) fit), λ wide. fits_of n (segment a b rs) (both.1 wide))

-- what numbers cost is their quotients, and for each a one and k bits
pub cost_split : (k : ℕ) (ns : List ℕ) → sum_by (folded_cost k) ns ≡ sum_by (λ n. n / 2 ^ k) ns + length ns * (1 + k)
cost_split k [] = omega arith
cost_split k (n ∷ ns) = omega (arith, sum_by-cons (folded_cost k) n ns, sum_by-cons (λ n. n / 2 ^ k) n ns, suc-mul (length ns) (1 + k), cost_split k ns)
