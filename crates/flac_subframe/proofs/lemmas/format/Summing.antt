-- The sums of products for the samples to come.
use Rattle.std.proofs.Common.{◌≡◌, ◌∙◌, ℕ, zero, suc, ◌+◌, ◌-◌, ◌^◌, ◌≤◌, ◌<◌, refl, sym, arith, ℤ, pos, ◌+ℤ◌, ◌*ℤ◌, List, [], ◌∷◌, length, drop, inl, inr, to_z, of_z, w64}
use Rattle.std.proofs.Math.IntN.{+ℤ_comm}
use Rattle.std.proofs.lemmas.List.{drop_more, drop_all}
use Rattle.std.proofs.lemmas.Bool.{cases_lt}
use Rattle.flac_subframe.specs.format.Numbers.{sample_at}
use Rattle.flac_subframe.specs.format.Prediction.{prediction, weighted}
use Rattle.std.specs.Int.{int_shr}
use Rattle.std.specs.Int.RustNames.{unsigned_abs}
use Rattle.std.proofs.lemmas.Int.{ints}
use Rattle.std.specs.Prelude.{All, ⊤}
use Rattle.flac_bits.specs.Signed.{FitsBits}
use Rattle.flac_subframe.specs.format.inner.Summing.{known, AreSums, AreBelow, Added, IsHeld, IsNear}
use Rattle.flac_subframe.proofs.lemmas.format.Bounds.{back, fits_more, shifted_small, stored, term_small}
use Rattle.flac_subframe.proofs.lemmas.format.Restoring.{RestoredTo}

-- a sum reads only the samples before its index
pub known_agrees : (cs s t : List ℤ) (i : ℕ) → ((j : ℕ) → j < i → sample_at s j ≡ sample_at t j) → known cs s i ≡ known cs t i
unfolding known
known_agrees [] s t i same = refl
known_agrees (c ∷ cs) s t zero same = refl
known_agrees (c ∷ cs) s t (suc i) same =
    let here : sample_at s i ≡ sample_at t i = same i (omega arith) in
    let rest : known cs s i ≡ known cs t i = known_agrees cs s t i (λ j h. same j (omega arith)) in
    rw (here, rest) refl

-- where all samples are there, it is the sum of all products
pub known_is : (cs s : List ℤ) (i : ℕ) → length cs ≤ i → known cs s i ≡ weighted cs s i
unfolding known weighted
known_is [] s i long = refl
known_is (c ∷ cs) s zero long = absurd (omega arith)
known_is (c ∷ cs) s (suc i) long =
    let e : suc i - 1 ≡ i = omega arith in
    rw (e, known_is cs s i (omega arith)) refl

pub known_none : (cs s : List ℤ) → known cs s 0 ≡ pos 0
unfolding known
known_none [] s = refl
known_none (c ∷ cs) s = refl

pub known_nothing : (s : List ℤ) (i : ℕ) → known [] s i ≡ pos 0
unfolding known
known_nothing s i = refl

pub known_more : (c : ℤ) (cs s : List ℤ) (i : ℕ) → known (c ∷ cs) s (i + 1) ≡ (c *ℤ sample_at s i) +ℤ known cs s i
unfolding known
known_more c cs s i = let e : i + 1 ≡ suc i = omega arith in rw e refl

-- after one sample more
pub sums_more : (cs s t old new : List ℤ) (i : ℕ) (x : ℤ) → AreSums cs s old i → Added cs x old new → sample_at t i ≡ x → ((j : ℕ) → j < i → sample_at s j ≡ sample_at t j) → AreSums cs t new (i + 1)
sums_more cs s t old new i x so added here same k le = elim (cases_lt k (length cs)) [
  | inl lt ↦
      let next : sample_at old (k + 1) ≡ known (drop (k + 1) cs) t i = so (k + 1) (omega arith) ∙ known_agrees (drop (k + 1) cs) s t i same in
      added.each k lt ∙ rw (drop_more cs k (pos 0) lt, known_more (sample_at cs k) (drop (k + 1) cs) t i, here, next) (+ℤ_comm (known (drop (k + 1) cs) t i) (sample_at cs k *ℤ x))
  | inr over ↦
      let end : k ≡ length cs = omega (arith, le, over) in
      let none : drop (length cs) cs ≡ [] = drop_all (length cs) cs (omega arith) in
      let was : sample_at old (length cs) ≡ pos 0 = rw (none, known_nothing s i) at (so (length cs) (omega arith)) in
      rw (end, none, known_nothing t (i + 1)) (added.last ∙ was)
]

-- sums of fewer products are smaller
pub below_more : (order : ℕ) (cs old new : List ℤ) (x : ℤ) → length cs ≡ order → All (FitsBits 15) cs → FitsBits 33 x → AreBelow order old → Added cs x old new → AreBelow order new
below_more order cs old new x long small fit below added k le = elim (cases_lt k order) [
  | inl lt ↦
      let was = below (k + 1) (omega (arith, lt)) in
      let term = term_small (sample_at cs k) x (small k (pos 0) (omega (arith, lt, long))) fit in
      rw (added.each k (omega (arith, lt, long))) (omega (arith, ints, was, term, lt))
  | inr over ↦
      let end : k ≡ length cs = omega (arith, le, over, long) in
      let was = below (length cs) (omega (arith, long)) in
      rw (end, added.last) was
]

-- the products of samples that fit are held, and so are the sums
module _ (order : ℕ) (cs old : List ℤ) (x : ℤ) (long : length cs ≡ order) (few : order ≤ 12) (small : All (FitsBits 15) cs) (fit : FitsBits 33 x) where
  pub products_held : (k : ℕ) → k < order → IsHeld (sample_at cs k *ℤ x)
  products_held k lt = omega (arith, term_small (sample_at cs k) x (small k (pos 0) (omega (arith, lt, long))) fit)

  module _ (below : AreBelow order old) where
    pub sums_held : (k : ℕ) → k < order → IsHeld (sample_at old (k + 1) +ℤ (sample_at cs k *ℤ x))
    sums_held k lt =
        let term = term_small (sample_at cs k) x (small k (pos 0) (omega (arith, lt, long))) fit in
        let was = below (k + 1) (omega (arith, lt)) in
        omega (arith, ints, term, was, few)

-- what the code has added
pub added_is : (order : ℕ) (cs old new : List ℤ) (x : ℤ) → length cs ≡ order → ((k : ℕ) → k < order → sample_at new k ≡ sample_at old (k + 1) +ℤ (sample_at cs k *ℤ x)) → sample_at new order ≡ sample_at old order → Added cs x old new
added_is order cs old new x long added last = record { each = λ k lt. added k (omega (arith, lt, long)); last = rw long last }

abbrev pub AllZero : List ℤ → Type 0
AllZero [] = ⊤
AllZero (z ∷ zs) = (z ≡ pos 0) × AllZero zs

pub zeros_at : (zs : List ℤ) → AllZero zs → (k : ℕ) → sample_at zs k ≡ pos 0
zeros_at [] zeros k = refl
zeros_at (z ∷ zs) zeros zero = zeros.0
zeros_at (z ∷ zs) zeros (suc k) = zeros_at zs zeros.1 k

-- before the first sample
pub sums_none : (cs s sums : List ℤ) → ((k : ℕ) → sample_at sums k ≡ pos 0) → AreSums cs s sums 0
sums_none cs s sums zeros k le = zeros k ∙ sym (known_none (drop k cs) s)

pub below_none : (order : ℕ) (sums : List ℤ) → ((k : ℕ) → sample_at sums k ≡ pos 0) → AreBelow order sums
below_none order sums zeros k le = rw (zeros k) (omega arith)

-- what a place holds of a number that fits, and of a residual value that is still there
pub stored_fits : (bits : ℕ) (z : ℤ) → bits ≤ 33 → FitsBits bits z → FitsBits 33 (to_z w64 (of_z w64 z))
stored_fits bits z few f = rw (stored bits z few f) (fits_more bits z few f)

pub residual_fits : (z r : ℤ) → z ≡ r → FitsBits 32 r → FitsBits 32 (to_z w64 (of_z w64 z))
residual_fits z r same f = rw (same, stored 32 r (omega arith) f) f

-- a sample as the code makes it
module _ (z r : ℤ) (s : ℕ) (small : unsigned_abs z ≤ 2 ^ 51) (fit : FitsBits 32 r) where
  sum_kept : to_z w64 (of_z w64 (int_shr (to_z w64 (of_z w64 z)) s)) +ℤ to_z w64 (of_z w64 r) ≡ int_shr z s +ℤ r
  sum_kept =
      let same : to_z w64 (of_z w64 z) ≡ z = back z (omega (arith, small)) in
      let high : to_z w64 (of_z w64 (int_shr z s)) ≡ int_shr z s = back (int_shr z s) (omega (arith, shifted_small z s small)) in
      let residual : to_z w64 (of_z w64 r) ≡ r = back r (omega (arith, ints, fit.low, fit.high)) in
      rw (same, high, residual) refl

  sum_less : unsigned_abs (int_shr z s +ℤ r) < 2 ^ 63
  sum_less = omega (arith, ints, shifted_small z s small, fit.low, fit.high)

  pub sample_is : to_z w64 (of_z w64 (to_z w64 (of_z w64 (int_shr (to_z w64 (of_z w64 z)) s)) +ℤ to_z w64 (of_z w64 r))) ≡ int_shr z s +ℤ r
  sample_is = rw sum_kept (back (int_shr z s +ℤ r) sum_less)

  pub sample_near : IsNear (to_z w64 (of_z w64 (to_z w64 (of_z w64 (int_shr (to_z w64 (of_z w64 z)) s)) +ℤ to_z w64 (of_z w64 r))))
  sample_near = rw sample_is (omega (arith, ints, shifted_small z s small, fit.low, fit.high))

-- the first sum gives the next sample
module _ (order : ℕ) (sums : List ℤ) (few : order ≤ 12) (below : AreBelow order sums) where
  first_small : unsigned_abs (sample_at sums 0) ≤ 2 ^ 51
  first_small = omega (arith, few, below 0 (omega arith))

  first_kept : to_z w64 (of_z w64 (sample_at sums 0)) ≡ sample_at sums 0
  first_kept = back (sample_at sums 0) (omega (arith, first_small))

  pub first_within : unsigned_abs (to_z w64 (of_z w64 (sample_at sums 0))) ≤ 2 ^ 51
  first_within = rw first_kept first_small

  pub next_is : (cs s r : List ℤ) (shift i : ℕ) (v : ℤ) → v ≡ int_shr (to_z w64 (of_z w64 (sample_at sums 0))) shift +ℤ to_z w64 (of_z w64 (sample_at s i))
      → AreSums cs s sums i → length cs ≤ i → sample_at s i ≡ sample_at r i → FitsBits 32 (sample_at r i) → v ≡ prediction cs shift s i +ℤ sample_at r i
  next_is cs s r shift i v is so long same fit =
      let residual : to_z w64 (of_z w64 (sample_at r i)) ≡ sample_at r i = omega (arith, ints, fit.low, fit.high) in
      rw (first_kept, so 0 (omega arith), known_is cs s i long, same, residual) at is

-- the first i samples are restored, and the sums of their products are small
pub record SumsOn (order : ℕ) (cs : List ℤ) (shift bits : ℕ) (r s sums : List ℤ) (i : ℕ) : Type 0 where
  pub so : RestoredTo cs shift bits r s i
  pub held : AreSums cs s sums i
  pub below : AreBelow order sums
