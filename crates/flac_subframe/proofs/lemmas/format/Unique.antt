-- There is one list of samples that is restored.
use Rattle.std.proofs.Common.{◌≡◌, ◌∙◌, ℕ, zero, suc, ◌-◌, ◌^◌, ◌≤◌, ◌<◌, refl, sym, ap, arith, Bool, true, false, cond, IsTrue, ℤ, pos, negsuc, ◌+ℤ◌, List, [], ◌∷◌, length, All, inl, inr, Option, Some, None, nat_lt}
use Rattle.std.specs.Int.{int_shr}
use Rattle.std.proofs.lemmas.Int.{ints}
use Rattle.std.proofs.lemmas.List.{length-append, get_or_append_left, ext_get_or}
use Rattle.std.proofs.Math.Seq.{get_or-append_seam}
use Rattle.std.proofs.lemmas.List.Elements.{All-nil, All-cons}
use Rattle.std.proofs.lemmas.Bool.{cases_lt, lt-ltb, ltb-true, false≢true}
use Rattle.flac_bits.specs.Signed.{FitsBits}
use Rattle.flac_subframe.specs.format.Numbers.{sample_at, fits, all_fit}
use Rattle.flac_subframe.specs.format.Prediction.{prediction, weighted, Restored, first_restored, restored}
use Rattle.flac_subframe.proofs.lemmas.format.Restoring.{weighted_agrees}
use Rattle.flac_subframe.proofs.lemmas.format.Samples.{all_fit_is}

ltb-ge : (a b : ℕ) → b ≤ a → nat_lt a b ≡ false
ltb-ge a b h = not_true (nat_lt a b) (λ e. absurd (omega (arith, ltb-true a b e)))
  where
    not_true : (t : Bool) → (t ≡ true → ⊥) → t ≡ false
    not_true true f = absurd (f refl)
    not_true false f = refl

module _ (cs : List ℤ) (shift : ℕ) (r : List ℤ) where
  -- what a sample is, by those before it
  abbrev next : List ℤ → ℕ → ℤ
  next s n = cond (nat_lt n (length cs)) (sample_at r n) (prediction cs shift s n +ℤ sample_at r n)

  next_warm : (s : List ℤ) (k : ℕ) → k < length cs → next s k ≡ sample_at r k
  next_warm s k h = rw (lt-ltb k (length cs) h) refl

  next_later : (s : List ℤ) (k : ℕ) → length cs ≤ k → next s k ≡ prediction cs shift s k +ℤ sample_at r k
  next_later s k h = rw (ltb-ge k (length cs) h) refl

  next_agrees : (s t : List ℤ) (k : ℕ) → ((j : ℕ) → j < k → sample_at s j ≡ sample_at t j) → next s k ≡ next t k
  next_agrees s t k same = elim (cases_lt k (length cs)) [
    | inl b ↦ next_warm s k b ∙ sym (next_warm t k b)
    | inr b ↦ next_later s k b ∙ ap (λ (z : ℤ). int_shr z shift +ℤ sample_at r k) (weighted_agrees cs s t k b same) ∙ sym (next_later t k b)
  ]

  first_long : (n : ℕ) → length (first_restored cs shift r n) ≡ n
  unfolding first_restored
  first_long zero = refl
  first_long (suc n) = length-append (first_restored cs shift r n) _ ∙ omega (arith, first_long n)

  first_keeps : (n k : ℕ) → k < n → sample_at (first_restored cs shift r (suc n)) k ≡ sample_at (first_restored cs shift r n) k
  unfolding first_restored
  first_keeps n k h = get_or_append_left (first_restored cs shift r n) _ (pos 0) k (omega (arith, first_long n))

  first_last : (n : ℕ) → sample_at (first_restored cs shift r (suc n)) n ≡ next (first_restored cs shift r n) n
  unfolding first_restored
  first_last n =
      let s = first_restored cs shift r n in
      let e = get_or-append_seam s (next s n) [] (pos 0) in
      rw (first_long n) at e

  first_is : (n k : ℕ) → k < n → sample_at (first_restored cs shift r n) k ≡ next (first_restored cs shift r n) k
  first_is zero k h = absurd (omega arith)
  first_is (suc n) k h =
      let s = first_restored cs shift r n in
      let t = first_restored cs shift r (suc n) in
      elim (cases_lt k n) [
        | inl b ↦ first_keeps n k b ∙ first_is n k b ∙ next_agrees s t k (λ j h. sym (first_keeps n j (omega arith)))
        | inr b ↦ let e : k ≡ n = omega arith in rw e (first_last n ∙ next_agrees s t n (λ j h. sym (first_keeps n j h)))
      ]

  pub restored_is : length cs ≤ length r → Restored cs shift r (restored cs shift r)
  unfolding restored
  restored_is enough =
      let n = length r in
      record {
        long = first_long n;
        warm_up = λ k h. first_is n k (omega arith) ∙ next_warm (first_restored cs shift r n) k h;
        later = λ k g h. first_is n k h ∙ next_later (first_restored cs shift r n) k g;
      }

  same_to : (s t : List ℤ) → Restored cs shift r s → Restored cs shift r t → (n : ℕ) → n ≤ length r → (k : ℕ) → k < n → sample_at s k ≡ sample_at t k
  same_to s t p q zero le k h = absurd (omega arith)
  same_to s t p q (suc n) le k h =
      let before : (j : ℕ) → j < n → sample_at s j ≡ sample_at t j = λ j b. same_to s t p q n (omega arith) j b in
      elim (cases_lt k n) [
        | inl b ↦ before k b
        | inr b ↦ elim (cases_lt k (length cs)) [
          | inl w ↦ p.warm_up k w ∙ sym (q.warm_up k w)
          | inr w ↦
              let e : weighted cs s k ≡ weighted cs t k = weighted_agrees cs s t k w (λ j b. before j (omega arith)) in
              p.later k w (omega arith) ∙ rw e (sym (q.later k w (omega arith)))
        ]
      ]

  pub only_one : (s t : List ℤ) → Restored cs shift r s → Restored cs shift r t → s ≡ t
  only_one s t p q = ext_get_or (pos 0) s t (p.long ∙ sym q.long) (λ k h. same_to s t p q (length r) (omega arith) k (omega (arith, p.long)))

is_fit : (n : ℕ) (z : ℤ) → fits n z ≡ true → FitsBits n z
is_fit n (pos a) e = record { low = omega (arith, ints, ltb-true a (2 ^ (n - 1)) e); high = omega (arith, ints, ltb-true a (2 ^ (n - 1)) e) }
is_fit n (negsuc a) e = record { low = omega (arith, ints, ltb-true a (2 ^ (n - 1)) e); high = omega (arith, ints, ltb-true a (2 ^ (n - 1)) e) }

both_true : (a b : Bool) → cond a b false ≡ true → (a ≡ true) × (b ≡ true)
both_true true b e = (refl, e)
both_true false b e = absurd (false≢true e)

pub are_fit : (n : ℕ) (zs : List ℤ) → all_fit n zs ≡ true → All (FitsBits n) zs
are_fit n [] e = All-nil (FitsBits n)
are_fit n (z ∷ zs) e =
    let both = both_true (fits n z) (all_fit n zs) e in
    All-cons (FitsBits n) z zs (is_fit n z both.0) (are_fit n zs both.1)

cases_of : (b t : Bool) (s w : List ℤ) → (b ≡ true → (s ≡ w) × (t ≡ true)) → (t ≡ true → b ≡ true) → cond t (Some w) None ≡ cond b (Some s) None
cases_of true true s w p q = ap (λ (x : List ℤ). some x) (sym (p refl).0)
  where
    some : List ℤ → Option (List ℤ)
    some x = Some x
cases_of true false s w p q = absurd (false≢true (p refl).1)
cases_of false true s w p q = absurd (false≢true (q refl))
cases_of false false s w p q = refl

-- what a restoring call answers is whether the samples fit
pub restored_fits : (cs : List ℤ) (shift bits : ℕ) (r s : List ℤ) (b : Bool) → length cs ≤ length r → (IsTrue b → Restored cs shift r s) → (IsTrue b → All (FitsBits bits) s) → ((t : List ℤ) → Restored cs shift r t → All (FitsBits bits) t → IsTrue b)
    → cond (all_fit bits (restored cs shift r)) (Some (restored cs shift r)) None ≡ cond b (Some s) None
restored_fits cs shift bits r s b enough is fit only =
    cases_of b (all_fit bits (restored cs shift r)) s (restored cs shift r)
    (λ e. let same = only_one cs shift r s (restored cs shift r) (is e) (restored_is cs shift r enough) in (same, rw (← same) (all_fit_is bits s (fit e))))
    (λ e. only (restored cs shift r) (restored_is cs shift r enough) (are_fit bits (restored cs shift r) e))
