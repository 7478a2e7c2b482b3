-- Folded numbers of few bits: the width of the whole bounds each, and what is above their lowest bits is small.
use Rattle.std.proofs.Common.{◌≡◌, ℕ, ◌+◌, ◌-◌, ◌*◌, ◌/◌, ◌^◌, ◌≤◌, ◌<◌, arith, ℤ, List, length, map, All}
use Rattle.std.proofs.lemmas.List.{take_all}
use Rattle.std.proofs.lemmas.Nat.{pow-add, pow_pos}
use Rattle.std.proofs.Math.Nat.{div-lt_iff_lt-mul, pow-le-pow_right}
use Rattle.flac_bits.specs.Rice.{folded}
use Rattle.flac_subframe.specs.search.inner.Halves.{part, start, Halves, IsWidth}
use Rattle.flac_subframe.proofs.lemmas.search.Folds.{below_of}
use Rattle.flac_subframe.proofs.lemmas.search.Splits.{start_last}

-- the one partition of a block that is not halved is all of it
pub part_whole : (order : ℕ) (rs : List ℤ) → Halves order rs 0 → part order rs 0 0 ≡ rs
unfolding part
part_whole order rs half =
    let from : start order (length rs + order) 0 0 ≡ 0 = omega arith in
    let to : start order (length rs + order) 0 (0 + 1) ≡ length rs = start_last order rs 0 half in
    rw (from, to) (take_all (length rs - 0) rs (omega arith))

pub whole_bounded : (order : ℕ) (rs : List ℤ) (ns : List ℕ) (w : ℕ) → Halves order rs 0 → ns ≡ map folded rs → IsWidth (part order rs 0 0) w → All (λ n. n < 2 ^ w) ns
whole_bounded order rs ns w half is width = rw is (below_of w rs (rw (part_whole order rs half) at ((width w).1 (omega arith))))

pub quotient_small : (n w k : ℕ) → n < 2 ^ w → w ≤ 28 + k → n / 2 ^ k < 2 ^ 28
quotient_small n w k less few =
    let a : 2 ^ w ≤ 2 ^ (28 + k) = pow-le-pow_right {n = 2} (omega arith) {i = w} {j = 28 + k} few in
    let b : 2 ^ (28 + k) ≡ 2 ^ 28 * 2 ^ k = pow-add 2 28 k in
    (div-lt_iff_lt-mul {k = 2 ^ k} {x = n} {y = 2 ^ 28} (pow_pos k)).1 (omega (arith, less, a, b))
