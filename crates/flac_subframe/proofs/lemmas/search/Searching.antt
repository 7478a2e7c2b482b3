-- One predictor more, with what the code knows of it.
use Rattle.std.proofs.Common.{◌≡◌, inl, inr, ℕ, ◌+◌, ◌-◌, ◌*◌, ◌≤◌, ◌<◌, ◌^◌, arith, ℤ, List, [], ◌∷◌, ◌++◌, length, take, All}
use Rattle.std.proofs.lemmas.List.FromFn.{length-map-range_with_len}
use Rattle.flac_bits.specs.Rice.{IsResidual}
use Rattle.flac_subframe.specs.declared.format.linear.LinearPredictor.{LinearPredictor}
use Rattle.flac_subframe.specs.format.Bodies.{Chooses, coefficients_of, shift_of, order_of, fields_cost, difference, differences}
use Rattle.flac_subframe.specs.format.Chosen.{HasPredictor, body_as, body_under}
use Rattle.flac_subframe.specs.format.Cost.{Codings, MayWrite}
use Rattle.flac_subframe.specs.format.Least.{IsLeast}
use Rattle.flac_subframe.specs.search.inner.Chosen.{Way, IsBest, IsLeastOf, residual_by}
use Rattle.flac_subframe.specs.search.inner.Halves.{HasResidual}
use Rattle.flac_subframe.specs.format.inner.Cost.{residual_cost}
use Rattle.flac_subframe.proofs.lemmas.search.Best.{best_none, best_above, best_taken}

module _ (hs : List LinearPredictor) (most d : ℕ) (s : List ℤ) (ps : List Chooses) (p : Chooses) (order before : ℕ) (long : order ≡ order_of p) (fields : before ≡ d * order_of p + fields_cost p) (best : Way)
    (so : IsBest hs most d s ps best) where
  pub too_long : length s ≤ order → IsBest hs most d s (ps ++ p ∷ []) best
  too_long h = best_none hs most d s ps p best so (inl (omega (arith, long)))

  pub out_of_range : (All IsResidual (differences (coefficients_of p) (shift_of p) s) → ⊥) → IsBest hs most d s (ps ++ p ∷ []) best
  out_of_range h = best_none hs most d s ps p best so (inr h)

  pub too_dear : best.bits ≤ before → IsBest hs most d s (ps ++ p ∷ []) best
  too_dear h = best_above hs most d s ps p best so 0 (omega (arith, fields)) (λ f m. omega arith)

  pub no_better : (below : ℕ) → best.bits ≤ before + below →
      ((f : Codings) → MayWrite most order (differences (coefficients_of p) (shift_of p) s) f → below ≤ residual_cost order (differences (coefficients_of p) (shift_of p) s) f) → IsBest hs most d s (ps ++ p ∷ []) best
  no_better below h each = best_above hs most d s ps p best so below (omega (arith, fields)) (rw long at each)

  pub better : (f : Codings) (n : ℕ) (new : Way) → order < length s → All IsResidual (differences (coefficients_of p) (shift_of p) s) →
      IsLeast (MayWrite most order (differences (coefficients_of p) (shift_of p) s)) (residual_cost order (differences (coefficients_of p) (shift_of p) s)) f → n ≡ residual_cost order (differences (coefficients_of p) (shift_of p) s) f → n ≤ 2 ^ 49 →
      new.bits ≡ before + n → new.bits ≤ best.bits → HasPredictor hs new.content → body_as hs new.content new.codings s ≡ body_under p f s → IsBest hs most d s (ps ++ p ∷ []) new
  better f n new room range least bits small is less within body =
      let of : IsLeastOf most (coefficients_of p) (shift_of p) s f n = record { room = omega (arith, long); range = range; least = rw long at least; bits = rw long at bits; small = small } in
      best_taken hs most d s ps p best so f n new of (omega (arith, fields)) less within body

-- the residual of a predictor is the first places of an array that begins with it
pub residual_taken : (p : Chooses) (s : List ℤ) (order : ℕ) (values : List ℤ) (folds : List ℕ) → order ≡ length (coefficients_of p) → HasResidual (residual_by p s) values folds → take (length s - order) values ≡ residual_by p s
residual_taken p s order values folds e so =
    let long : length (residual_by p s) ≡ length s - order = rw e (length-map-range_with_len (difference (coefficients_of p) (shift_of p) s) 0 (length s - length (coefficients_of p))) in
    rw (← long) so.begins
