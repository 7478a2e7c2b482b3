-- Restoration in place, one sample at a time.
use Rattle.std.proofs.Common.{◌≡◌, ◌∙◌, ℕ, zero, suc, ◌+◌, ◌-◌, ◌^◌, ◌≤◌, ◌<◌, refl, sym, ap, arith, ℤ, pos, ◌+ℤ◌, List, [], ◌∷◌, length, take, slice_set, to_z, of_z, w64, All, inl, inr}
use Rattle.std.specs.Int.{int_shr}
use Rattle.std.specs.Int.RustNames.{unsigned_abs}
use Rattle.std.proofs.lemmas.Int.{ints}
use Rattle.std.proofs.lemmas.List.{get_or-set_same, get_or-set_other, get_or-take, length-take, length-take-le}
use Rattle.std.proofs.lemmas.Bool.{cases_lt}
use Rattle.std.proofs.lemmas.List.Elements.{All-from_get_or}
use Rattle.flac_subframe.proofs.lemmas.format.Bounds.{shifted_small, fits_more}
use Rattle.flac_bits.specs.Signed.{FitsBits}
use Rattle.flac_subframe.specs.format.Numbers.{sample_at}
use Rattle.flac_subframe.specs.format.Prediction.{prediction, weighted, Restored}

-- a prediction reads only the samples before it
pub weighted_agrees : (cs s t : List ℤ) (i : ℕ) → length cs ≤ i → ((k : ℕ) → k < i → sample_at s k ≡ sample_at t k) → weighted cs s i ≡ weighted cs t i
unfolding weighted
weighted_agrees [] s t i long same = refl
weighted_agrees (c ∷ cs) s t i long same =
    let here : sample_at s (i - 1) ≡ sample_at t (i - 1) = same (i - 1) (omega arith) in
    let rest : weighted cs s (i - 1) ≡ weighted cs t (i - 1) = weighted_agrees cs s t (i - 1) (omega arith) (λ k h. same k (omega arith)) in
    rw (here, rest) refl

-- the first i samples are restored, and the rest stands as it was
pub record RestoredTo (cs : List ℤ) (shift bits : ℕ) (r s : List ℤ) (i : ℕ) : Type 0 where
  pub warm_up : (k : ℕ) → k < length cs → sample_at s k ≡ sample_at r k
  pub later : (k : ℕ) → length cs ≤ k → k < i → sample_at s k ≡ prediction cs shift s k +ℤ sample_at r k
  pub rest : (k : ℕ) → i ≤ k → sample_at s k ≡ sample_at r k
  pub fits : (k : ℕ) → k < i → FitsBits bits (sample_at s k)

module _ (cs : List ℤ) (shift bits : ℕ) (r : List ℤ) where
  pub restored_more : (s : List ℤ) (i : ℕ) (v : ℤ) → length cs ≤ i → i < length s → RestoredTo cs shift bits r s i → v ≡ prediction cs shift s i +ℤ sample_at r i → FitsBits bits v → RestoredTo cs shift bits r (slice_set s i v) (i + 1)
  restored_more s i v long within so is fit =
      let new = slice_set s i v in
      let below : (k : ℕ) → k < i → sample_at new k ≡ sample_at s k = λ k h. get_or-set_other s i k v (pos 0) (λ e. omega arith) in
      let here : sample_at new i ≡ v = get_or-set_same s i v (pos 0) within in
      let same : (k : ℕ) → length cs ≤ k → k ≤ i → prediction cs shift new k ≡ prediction cs shift s k = λ k g h. ap (λ (z : ℤ). int_shr z shift) (weighted_agrees cs new s k g (λ j b. below j (omega arith))) in
      record {
        warm_up = λ k h. below k (omega arith) ∙ so.warm_up k h;
        later = λ k g h. elim (cases_lt k i) [
          | inl b ↦ rw (below k b, same k g (omega arith)) (so.later k g b)
          | inr b ↦ let e : k ≡ i = omega arith in rw (e, here, same i long (omega arith)) is
        ];
        rest = λ k h. get_or-set_other s i k v (pos 0) (λ e. omega arith) ∙ so.rest k (omega arith);
        fits = λ k h. elim (cases_lt k i) [
          | inl b ↦ rw (below k b) (so.fits k b)
          | inr b ↦ let e : k ≡ i = omega arith in rw (e, here) fit
        ];
      }

  -- what is restored is restored in one way alone
  pub restored_alike : (s t : List ℤ) (n i : ℕ) → n ≤ length r → ((k : ℕ) → k < length cs → sample_at s k ≡ sample_at r k) → ((k : ℕ) → length cs ≤ k → k < n → sample_at s k ≡ prediction cs shift s k +ℤ sample_at r k)
      → Restored cs shift r t → i ≤ n → (k : ℕ) → k < i → sample_at s k ≡ sample_at t k
  restored_alike s t n zero long warm_up later all in' k h = absurd (omega arith)
  restored_alike s t n (suc i) long warm_up later all in' k h =
      let before : (j : ℕ) → j < i → sample_at s j ≡ sample_at t j = λ j b. restored_alike s t n i long warm_up later all (omega arith) j b in
      elim (cases_lt k i) [
        | inl b ↦ before k b
        | inr b ↦ elim (cases_lt k (length cs)) [
          | inl w ↦ warm_up k w ∙ sym (all.warm_up k w)
          | inr w ↦
              let same : weighted cs s k ≡ weighted cs t k = weighted_agrees cs s t k w (λ j b. before j (omega arith)) in
              later k w (omega arith) ∙ rw same (sym (all.later k w (omega arith)))
        ]
      ]

  pub restored_once : (s t : List ℤ) (n i : ℕ) → n ≤ length r → RestoredTo cs shift bits r s n → Restored cs shift r t → i ≤ n → (k : ℕ) → k < i → sample_at s k ≡ sample_at t k
  restored_once s t n i long so all in' k h = restored_alike s t n i long so.warm_up so.later all in' k h

  -- where the next sample does not fit, no samples that are restored all fit
  pub stops : (s : List ℤ) (i : ℕ) (v : ℤ) → length cs ≤ i → i < length r → RestoredTo cs shift bits r s i → v ≡ prediction cs shift s i +ℤ sample_at r i → (FitsBits bits v → ⊥) → (t : List ℤ) → Restored cs shift r t → All (FitsBits bits) t → ⊥
  stops s i v long within so is unfit t all fit =
      let same : weighted cs s i ≡ weighted cs t i = weighted_agrees cs s t i long (λ j b. restored_once s t i i (omega arith) so all (omega arith) j b) in
      let e : v ≡ sample_at t i = is ∙ rw same (sym (all.later i long within)) in
      unfit (rw e (fit i (pos 0) (rw all.long within)))

  -- no samples that are restored all fit
  abbrev pub Hopeless : Type 0
  Hopeless = (t : List ℤ) → Restored cs shift r t → All (FitsBits bits) t → ⊥

  pub done : (s : List ℤ) (i : ℕ) → length s ≡ length r → length s ≤ i → RestoredTo cs shift bits r s i → Restored cs shift r s × All (FitsBits bits) s
  done s i long over so = (
    record { long = long; warm_up = so.warm_up; later = λ k g h. so.later k g (omega arith) },
    All-from_get_or (FitsBits bits) s (pos 0) (λ k h. so.fits k (omega arith)),
  )

-- a prediction from the samples before the index alone
pub of_front : (cs : List ℤ) (shift : ℕ) (s : List ℤ) (i : ℕ) → length cs ≤ i → i ≤ length s → prediction cs shift (take i s) (length (take i s)) ≡ prediction cs shift s i
of_front cs shift s i long within =
    rw (length-take-le i s within) (ap (λ (z : ℤ). int_shr z shift) (weighted_agrees cs (take i s) s i long (λ k h. get_or-take i s k (pos 0) h)))

-- The sum as the code has it: what was predicted of the front, and the residual.
pub sum_is : (cs : List ℤ) (shift : ℕ) (s r : List ℤ) (i : ℕ) (p : ℤ) → length cs ≤ i → i ≤ length s → p ≡ prediction cs shift (take i s) (length (take i s)) → unsigned_abs (weighted cs (take i s) (length (take i s))) ≤ 2 ^ 51 → sample_at s i ≡ sample_at r i → FitsBits 32 (sample_at r i) →
    to_z w64 (of_z w64 (to_z w64 (of_z w64 p) +ℤ to_z w64 (of_z w64 (sample_at s i)))) ≡ prediction cs shift s i +ℤ sample_at r i
sum_is cs shift s r i p long within is small same fit =
    let e : p ≡ prediction cs shift s i = is ∙ of_front cs shift s i long within in
    let h : unsigned_abs p ≤ 2 ^ 51 = rw is (shifted_small (weighted cs (take i s) (length (take i s))) shift small) in
    rw (same, ← e) (omega (arith, ints, fit.low, fit.high))

pub front_fits : (bits : ℕ) (s : List ℤ) (i : ℕ) → bits ≤ 33 → ((k : ℕ) → k < i → FitsBits bits (sample_at s k)) → All (FitsBits 33) (take i s)
front_fits bits s i small fits = All-from_get_or (FitsBits 33) (take i s) (pos 0) (λ k h.
    let b : k < i = omega (arith, length-take i s) in
    rw (get_or-take i s k (pos 0)) (fits_more bits (sample_at s k) small (fits k b)))
