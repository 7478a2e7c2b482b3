-- Sums of products for the samples to come, two in each word.
use Rattle.std.proofs.Common.{◌≡◌, ◌∙◌, ℕ, zero, suc, ◌+◌, ◌-◌, ◌*◌, ◌^◌, ◌≤◌, ◌<◌, refl, arith, ℤ, pos, ◌+ℤ◌, ◌*ℤ◌, List, [], ◌∷◌, length, drop, slice_set, inl, inr, to_z, of_z, w64}
use Rattle.std.proofs.Math.IntN.{zero-*ℤ, +ℤ_comm}
use Rattle.std.proofs.Math.ListN.{get_or-eq_default, replicate}
use Rattle.std.proofs.Math.Nat.{add-mul}
use Rattle.std.proofs.lemmas.List.{drop_more, drop_all, get_or-set_same, get_or-set_other, get_or-replicate}
use Rattle.std.proofs.lemmas.List.Sums.{sum_by-cons, sum_by-take-drop}
use Rattle.std.proofs.lemmas.Bool.{cases_lt}
use Rattle.std.proofs.lemmas.Nat.{mul-le}
use Rattle.std.proofs.lemmas.Int.{ints}
use Rattle.std.specs.List.{sum_by}
use Rattle.std.specs.Int.{int_shr}
use Rattle.std.specs.Int.RustNames.{unsigned_abs}
use Rattle.flac_bits.specs.Signed.{FitsBits}
use Rattle.flac_subframe.specs.format.Numbers.{sample_at}
use Rattle.flac_subframe.specs.format.Prediction.{prediction}
use Rattle.flac_subframe.specs.format.inner.Summing.{known, IsHeld}
use Rattle.flac_subframe.specs.format.inner.Packing.{packed, paired}
use Rattle.flac_subframe.proofs.lemmas.format.Bounds.{back, abs_product, stored}
use Rattle.flac_subframe.proofs.lemmas.format.Sizes.{sum_abs, one_below}
use Rattle.flac_subframe.proofs.lemmas.format.Restoring.{RestoredTo}
use Rattle.flac_subframe.proofs.lemmas.format.Packing.{packed_more, packed_small, product_small}
use Rattle.flac_subframe.proofs.lemmas.format.Summing.{known_agrees, known_is, known_more, known_none, known_nothing}

-- word j holds the sum j, and that half the order after it
pub record Packs (half : ℕ) (cs s words : List ℤ) (i : ℕ) : Type 0 where
  pub each : (j : ℕ) → j < half → sample_at words j ≡ packed (known (drop j cs) s i) (known (drop (j + half) cs) s i)

-- the first i samples are restored, and the words hold the sums of their products
pub record PacksOn (half : ℕ) (cs : List ℤ) (shift bits : ℕ) (r s words : List ℤ) (i : ℕ) : Type 0 where
  pub so : RestoredTo cs shift bits r s i
  pub packs : Packs half cs s words i

-- before the first sample
pub packs_none : (half n : ℕ) (cs s : List ℤ) → half ≤ n → Packs half cs s (replicate n (pos (2 ^ 31))) 0
packs_none half n cs s le = record { each = λ j lt. rw (known_none (drop j cs) s, known_none (drop (j + half) cs) s) (get_or-replicate n j (pos (2 ^ 31)) (pos 0) (omega (arith, le, lt))) }

-- the sums are small where the coefficients and the samples are
known_below : (cs s : List ℤ) (i m : ℕ) → ((k : ℕ) → k < i → unsigned_abs (sample_at s k) ≤ m) → unsigned_abs (known cs s i) ≤ sum_by unsigned_abs cs * m
unfolding known
known_below [] s i m most = omega arith
known_below (c ∷ cs) s zero m most = omega arith
known_below (c ∷ cs) s (suc i) m most =
    let one : unsigned_abs (c *ℤ sample_at s i) ≤ unsigned_abs c * m = abs_product c (sample_at s i) (unsigned_abs c) m (omega arith) (most i (omega arith)) in
    let rest : unsigned_abs (known cs s i) ≤ sum_by unsigned_abs cs * m = known_below cs s i m (λ k h. most k (omega arith)) in
    let both : unsigned_abs ((c *ℤ sample_at s i) +ℤ known cs s i) ≤ unsigned_abs c * m + sum_by unsigned_abs cs * m = sum_abs (c *ℤ sample_at s i) (known cs s i) _ _ one rest in
    rw (sum_by-cons unsigned_abs c cs, add-mul (unsigned_abs c) (sum_by unsigned_abs cs) m) both

-- one sample more in a sum
known_step : (cs s t : List ℤ) (i k : ℕ) (x : ℤ) → sample_at t i ≡ x → ((j : ℕ) → j < i → sample_at s j ≡ sample_at t j) → known (drop k cs) t (i + 1) ≡ known (drop (k + 1) cs) s i +ℤ (sample_at cs k *ℤ x)
known_step cs s t i k x here same = elim (cases_lt k (length cs)) [
  | inl lt ↦ rw (drop_more cs k (pos 0) lt, known_more (sample_at cs k) (drop (k + 1) cs) t i, here, known_agrees (drop (k + 1) cs) s t i same) (+ℤ_comm (sample_at cs k *ℤ x) (known (drop (k + 1) cs) t i))
  | inr over ↦
      let none : drop k cs ≡ [] = drop_all k cs over in
      let less : drop (k + 1) cs ≡ [] = drop_all (k + 1) cs (omega (arith, over)) in
      let zero : sample_at cs k ≡ pos 0 = get_or-eq_default cs (pos 0) over in
      rw (none, less, zero, known_nothing t (i + 1), known_nothing s i, zero-*ℤ x) refl
]

module _ (half : ℕ) (cs : List ℤ) (m : ℕ) (narrow : sum_by unsigned_abs cs * m < 2 ^ 31) where
  sum_small : (s : List ℤ) (i : ℕ) → ((k : ℕ) → k < i → unsigned_abs (sample_at s k) ≤ m) → (k : ℕ) → unsigned_abs (known (drop k cs) s i) < 2 ^ 31
  sum_small s i most k =
      let few : sum_by unsigned_abs (drop k cs) ≤ sum_by unsigned_abs cs = omega (arith, sum_by-take-drop unsigned_abs cs k) in
      let le : sum_by unsigned_abs (drop k cs) * m ≤ sum_by unsigned_abs cs * m = mul-le (sum_by unsigned_abs (drop k cs)) m (sum_by unsigned_abs cs) m few (omega arith) in
      omega (arith, narrow, le, known_below (drop k cs) s i m most)

  term_small : (k : ℕ) (x : ℤ) → unsigned_abs x ≤ m → unsigned_abs (sample_at cs k *ℤ x) < 2 ^ 31
  term_small k x small = omega (arith, narrow, abs_product (sample_at cs k) x (sum_by unsigned_abs cs) m (one_below cs k) small)

  pub products_small : (factors : List ℤ) (x : ℤ) → unsigned_abs x ≤ m → ((j : ℕ) → j < half → sample_at factors j ≡ paired (sample_at cs j) (sample_at cs (j + half))) → (j : ℕ) → j < half → IsHeld (sample_at factors j *ℤ x)
  products_small factors x small pairs j lt = rw (pairs j lt) (product_small (sample_at cs j) (sample_at cs (j + half)) x (term_small j x small) (term_small (j + half) x small))

  module _ (s words : List ℤ) (i : ℕ) (most : (k : ℕ) → k < i → unsigned_abs (sample_at s k) ≤ m) (some : 1 ≤ half) (packs : Packs half cs s words i) where
    first_is : sample_at words 0 ≡ packed (known cs s i) (known (drop half cs) s i)
    first_is = let e : 0 + half ≡ half = omega arith in rw e at (packs.each 0 some)

    held : to_z w64 (of_z w64 (sample_at words 0)) ≡ packed (known cs s i) (known (drop half cs) s i)
    held = back (sample_at words 0) (rw first_is (packed_small (known cs s i) (known (drop half cs) s i) (sum_small s i most 0) (sum_small s i most half))) ∙ first_is

    -- the first word gives the next sample
    pub next_is : (r : List ℤ) (shift : ℕ) (v : ℤ) → ((high low : ℤ) → unsigned_abs low < 2 ^ 31 → to_z w64 (of_z w64 (sample_at words 0)) ≡ packed high low → v ≡ int_shr high shift +ℤ to_z w64 (of_z w64 (sample_at s i)))
        → length cs ≤ i → sample_at s i ≡ sample_at r i → FitsBits 32 (sample_at r i) → v ≡ prediction cs shift s i +ℤ sample_at r i
    next_is r shift v is long same fit =
        let residual : to_z w64 (of_z w64 (sample_at r i)) ≡ sample_at r i = omega (arith, ints, fit.low, fit.high) in
        rw (known_is cs s i long, same, residual) at (is (known cs s i) (known (drop half cs) s i) (sum_small s i most half) held)

    module _ (t factors : List ℤ) (x v : ℤ) (all : length cs ≤ half + half) (room : half < length words) (small : unsigned_abs x ≤ m) (here : sample_at t i ≡ x) (same : (j : ℕ) → j < i → sample_at s j ≡ sample_at t j)
        (after : (high low : ℤ) → unsigned_abs low < 2 ^ 31 → to_z w64 (of_z w64 (sample_at words 0)) ≡ packed high low → v ≡ packed low (pos 0))
        (pairs : (j : ℕ) → j < half → sample_at factors j ≡ paired (sample_at cs j) (sample_at cs (j + half))) where
      abbrev old : List ℤ
      old = slice_set words half (to_z w64 (of_z w64 v))

      v_is : v ≡ packed (known (drop half cs) s i) (pos 0)
      v_is = after (known cs s i) (known (drop half cs) s i) (sum_small s i most half) held

      v_held : to_z w64 (of_z w64 v) ≡ packed (known (drop half cs) s i) (pos 0)
      v_held = back v (rw v_is (packed_small (known (drop half cs) s i) (pos 0) (sum_small s i most half) (omega arith))) ∙ v_is

      word_is : (j : ℕ) → j ≤ half → sample_at old j ≡ packed (known (drop j cs) s i) (known (drop (j + half) cs) s i)
      word_is j le = elim (cases_lt j half) [
        | inl lt ↦ get_or-set_other words half j (to_z w64 (of_z w64 v)) (pos 0) (λ e. omega (arith, e, lt)) ∙ packs.each j lt
        | inr over ↦
            let e : j ≡ half = omega (arith, le, over) in
            let none : drop (half + half) cs ≡ [] = drop_all (half + half) cs all in
            rw (e, none, known_nothing s i) (get_or-set_same words half (to_z w64 (of_z w64 v)) (pos 0) room ∙ v_held)
      ]

      most_more : (k : ℕ) → k < i + 1 → unsigned_abs (sample_at t k) ≤ m
      most_more k lt = elim (cases_lt k i) [
        | inl b ↦ rw (← same k b) (most k b)
        | inr b ↦ let e : k ≡ i = omega (arith, lt, b) in rw (e, here) small
      ]

      sum_is : (j : ℕ) → j < half → sample_at old (j + 1) +ℤ (sample_at factors j *ℤ x) ≡ packed (known (drop j cs) t (i + 1)) (known (drop (j + half) cs) t (i + 1))
      sum_is j lt =
          let e : j + 1 + half ≡ j + half + 1 = omega arith in
          rw (word_is (j + 1) (omega arith), pairs j lt, e, known_step cs s t i j x here same, known_step cs s t i (j + half) x here same)
          (packed_more (known (drop (j + 1) cs) s i) (known (drop (j + half + 1) cs) s i) (sample_at cs j) (sample_at cs (j + half)) x)

      pub sums_small : (j : ℕ) → j < half → IsHeld (sample_at old (j + 1) +ℤ (sample_at factors j *ℤ x))
      sums_small j lt = rw (sum_is j lt) (packed_small (known (drop j cs) t (i + 1)) (known (drop (j + half) cs) t (i + 1)) (sum_small t (i + 1) most_more j) (sum_small t (i + 1) most_more (j + half)))

      -- after one sample more
      pub packs_more : (new : List ℤ) → ((j : ℕ) → j < half → sample_at new j ≡ sample_at old (j + 1) +ℤ (sample_at factors j *ℤ x)) → Packs half cs t new (i + 1)
      packs_more new added = record { each = λ j lt. added j lt ∙ sum_is j lt }

-- how far from 0 a number of n bits is at most, and so its place
pub abs_from_bits : (n : ℕ) (z : ℤ) → FitsBits n z → unsigned_abs z ≤ 2 ^ (n - 1)
abs_from_bits n z f = omega (arith, ints, f.low, f.high)

pub abs_stored : (n : ℕ) (z : ℤ) → n ≤ 33 → FitsBits n z → unsigned_abs (to_z w64 (of_z w64 z)) ≤ 2 ^ (n - 1)
abs_stored n z few f = rw (stored n z few f) (abs_from_bits n z f)
