use Rattle.std.proofs.Common.{arith, ◌≡◌, ◌∙◌, ◌⊎◌, inl, inr, ◌≤◌, ◌<◌, ℕ, ℤ, Bool, true, false, nat_eq, List, All, length, sym}
use Rattle.std.proofs.lemmas.Bool.{false≢true, eqb-true, eqb-false}
use Rattle.flac_bits.specs.Signed.{FitsBits}
use Rattle.flac_subframe.proofs.format.linear.LinearPredictor.new.Goals as goal

refused : (P : Type 0) → (P → ⊥) → (false ≡ true → P) × (P → false ≡ true)
refused P none = (λ e. absurd (false≢true e), λ h. absurd (none h))

out_of_range : (p s : ℕ) → (p < 1) ⊎ (((1 ≤ p) × (15 < p)) ⊎ ((1 ≤ p) × (p ≤ 15) × (15 < s))) → 1 ≤ p → p ≤ 15 → s ≤ 15 → ⊥
out_of_range p s (inl low) some few small = omega arith
out_of_range p s (inr (inl high)) some few small = omega (arith, high.1)
out_of_range p s (inr (inr far)) some few small = omega (arith, far.2)

no_count : (b : Bool) (n : ℕ) → b ≡ nat_eq n 0 → (b ≡ true) ⊎ ((b ≡ false) × (32 < n)) → 0 < n → n ≤ 32 → ⊥
no_count b n e (inl none) some few = omega (arith, eqb-true n 0 (sym e ∙ none), some)
no_count b n e (inr many) some few = omega (arith, many.1, few)

some_items : (b : Bool) (s t : List ℤ) → t ≡ s → b ≡ nat_eq (length s) 0 → b ≡ false → 0 < length t
some_items b s t is e none = rw is (omega (arith, eqb-false (length s) 0 (sym e ∙ none)))

few_items : (s t : List ℤ) → t ≡ s → length s ≤ 32 → length t ≤ 32
few_items s t is h = rw is h

items_fit : (bits : ℕ) (s t : List ℤ) → t ≡ s → All (FitsBits bits) s → All (FitsBits bits) t
items_fit bits s t is h = rw is h

pub invariant_of-result : goal.invariant_of-result
invariant_of-result c = record {
  some_bits = c.if-precision-lt1.false;
  few_bits = c.if-precision-gt15.false;
  small_shift = c.if-shift-gt15.false;
  placed = c.if-coefficients-gt-MOST_COEFFICIENTS.false;
  some = some_items _ _ _ c.placed.ensures c.is_empty.ensures c.if-is_empty.false;
  few = few_items _ _ c.placed.ensures c.if-coefficients-gt-MOST_COEFFICIENTS.false;
  fit = items_fit _ _ _ c.placed.ensures (c.all_fit.ensures.0 c.if-not-all_fit.false);
}

pub returns-then-precision-lt1 : goal.returns-then-precision-lt1
returns-then-precision-lt1 c = record { some = tt; only = refused _ (λ h. out_of_range _ _ c.then-precision-lt1.either h.0 h.1 h.2) }

pub returns-then-is_empty : goal.returns-then-is_empty
returns-then-is_empty c = record { some = tt; only = refused _ (λ h. no_count _ _ c.is_empty.ensures c.then-is_empty.either h.3 h.4) }

pub returns-then-not-all_fit : goal.returns-then-not-all_fit
returns-then-not-all_fit c = record { some = tt; only = refused _ (λ h. false≢true (sym c.if-not-all_fit.true ∙ c.all_fit.ensures.1 h.5)) }
