-- One predictor more.
use Rattle.std.proofs.Common.{◌≡◌, ◌∙◌, inl, inr, ◌⊎◌, sym, ap, subst, ℕ, ◌+◌, ◌*◌, ◌≤◌, ◌<◌, arith, ℤ, List, [], ◌∷◌, ◌++◌, length, map, take, append_assoc}
use Rattle.std.proofs.lemmas.List.{get_or-map, map_more}
use Rattle.std.proofs.lemmas.List.FromFn.{map-range_with_len_more}
use Rattle.flac_subframe.specs.format.Cost.{Codings, MayWrite}
use Rattle.flac_subframe.specs.format.inner.Cost.{residual_cost}
use Rattle.flac_subframe.specs.declared.format.linear.LinearPredictor.{LinearPredictor}
use Rattle.flac_subframe.specs.format.Handed.{predictor_of, handed_at}
use Rattle.flac_subframe.specs.format.Bodies.{fields_cost, Chooses, fixed, coefficients_of, shift_of, order_of, differences, Among, Body, constant, verbatim, predicted, StandsFor}
use Rattle.flac_subframe.specs.format.Chosen.{HasPredictor, body_as, body_under, fixed_below}
use Rattle.flac_subframe.specs.search.inner.Chosen.{Way, IsBest, IsLeastOf, HasNone}
use Rattle.flac_subframe.proofs.lemmas.search.Bodies.{among_more, among_split, least_kept, least_taken, body_stands, body_costs, body_least, none_stands, residual_is, length-predicted}
use Rattle.flac_subframe.proofs.lemmas.format.Methods.{method_bits}

module _ (hs : List LinearPredictor) (most d : ℕ) (s : List ℤ) (ps : List Chooses) (p : Chooses) (best : Way) (so : IsBest hs most d s ps best) where
  pub best_none : HasNone (coefficients_of p) (shift_of p) s → IsBest hs most d s (ps ++ p ∷ []) best
  best_none none = record {
    within = so.within;
    least = least_kept most d s ps p (body_as hs best.content best.codings s) so.least (λ ws f rs stands. absurd (none_stands most d s ps p none ws f rs stands));
    priced = so.priced;
    small = so.small;
  }

  pub best_kept : (f : Codings) (n : ℕ) → IsLeastOf most (coefficients_of p) (shift_of p) s f n → best.bits ≤ d * order_of p + fields_cost p + n → IsBest hs most d s (ps ++ p ∷ []) best
  best_kept f n is less = record {
    within = so.within;
    least = least_kept most d s ps p (body_as hs best.content best.codings s) so.least (λ ws g rs stands. omega (arith, body_least most d s ps p f n is ws g rs stands, body_costs most d s ps p f n is, so.priced));
    priced = so.priced;
    small = so.small;
  }

  pub best_taken : (f : Codings) (n : ℕ) (new : Way) → IsLeastOf most (coefficients_of p) (shift_of p) s f n → new.bits ≡ d * order_of p + fields_cost p + n → new.bits ≤ best.bits → HasPredictor hs new.content → body_as hs new.content new.codings s ≡ body_under p f s → IsBest hs most d s (ps ++ p ∷ []) new
  best_taken f n new is bits less within body = record {
    within = within;
    least = rw body (least_taken most d s ps p (body_as hs best.content best.codings s) (take (order_of p) s) f (differences (coefficients_of p) (shift_of p) s) so.least
        (body_stands most d s ps p f n is) (omega (arith, body_costs most d s ps p f n is, so.priced)) (body_least most d s ps p f n is));
    priced = rw body (bits ∙ sym (body_costs most d s ps p f n is));
    small = omega (arith, so.small);
  }

module _ (hs : List LinearPredictor) (most d : ℕ) (s : List ℤ) (ps : List Chooses) (p : Chooses) (best : Way) (so : IsBest hs most d s ps best) where
  -- where no form of the predictor costs less
  pub best_above : (n : ℕ) → best.bits ≤ d * order_of p + fields_cost p + n →
      ((f : Codings) → MayWrite most (order_of p) (differences (coefficients_of p) (shift_of p) s) f → n ≤ residual_cost (order_of p) (differences (coefficients_of p) (shift_of p) s) f) →
      IsBest hs most d s (ps ++ p ∷ []) best
  best_above n less each = record {
    within = so.within;
    least = least_kept most d s ps p (body_as hs best.content best.codings s) so.least (λ ws f rs stands.
        let e = residual_is (coefficients_of p) (shift_of p) s ws rs stands.long stands.restored in
        let may : MayWrite most (order_of p) (differences (coefficients_of p) (shift_of p) s) f = rw e at stands.written in
        rw (← so.priced, length-predicted d p ws f rs (method_bits f.parameter_bits stands.written.method) stands.long, stands.long, e) (omega (arith, each f may)));
    priced = so.priced;
    small = so.small;
  }

pub one_fixed_more : (order : ℕ) → fixed_below (order + 1) ≡ fixed_below order ++ fixed order ∷ []
one_fixed_more order = map-range_with_len_more fixed 0 order order (omega arith)

-- ---- one predictor is tried before the others

stands_by : (most : ℕ) (ps qs : List Chooses) → ((p : Chooses) → Among p ps → Among p qs) → (b : Body) (s : List ℤ) → StandsFor most ps b s → StandsFor most qs b s
stands_by most ps qs to (constant v) s h = h
stands_by most ps qs to (verbatim vs) s h = h
stands_by most ps qs to (predicted p ws f rs) s h = (to p h.0, h.1)

-- what is the best by some predictors is so by the same in another order
same_best : (hs : List LinearPredictor) (most d : ℕ) (s : List ℤ) (ps qs : List Chooses) (best : Way) → ((p : Chooses) → Among p ps → Among p qs) → ((p : Chooses) → Among p qs → Among p ps) → IsBest hs most d s ps best → IsBest hs most d s qs best
same_best hs most d s ps qs best to from so = record {
  within = so.within;
  least = record { member = stands_by most ps qs to (body_as hs best.content best.codings s) s so.least.member; least = λ b h. so.least.least b (stands_by most qs ps from b s h) };
  priced = so.priced;
  small = so.small;
}

-- one of either list
among_left : (p : Chooses) (ps qs : List Chooses) → Among p ps → Among p (ps ++ qs)
among_left p [] qs h = absurd h
among_left p (x ∷ ps) qs (inl e) = inl e
among_left p (x ∷ ps) qs (inr h) = inr (among_left p ps qs h)

among_right : (p : Chooses) (ps qs : List Chooses) → Among p qs → Among p (ps ++ qs)
among_right p [] qs h = h
among_right p (x ∷ ps) qs h = inr (among_right p ps qs h)

among_either : (p : Chooses) (ps qs : List Chooses) → Among p (ps ++ qs) → Among p ps ⊎ Among p qs
among_either p [] qs h = inr h
among_either p (x ∷ ps) qs (inl e) = inl (inl e)
among_either p (x ∷ ps) qs (inr h) = elim (among_either p ps qs h) [ inl a ↦ inl (inr a) | inr b ↦ inr b ]

module _ (hs : List LinearPredictor) (most d : ℕ) (s : List ℤ) (ls : List Chooses) (best : Way) where
  pub next_tried : (first order : ℕ) → IsBest hs most d s ((ls ++ fixed first ∷ fixed_below order) ++ fixed order ∷ []) best → IsBest hs most d s (ls ++ fixed first ∷ fixed_below (order + 1)) best
  next_tried first order so =
      subst (λ (l : List Chooses). IsBest hs most d s l best)
      (append_assoc ls (fixed first ∷ fixed_below order) (fixed order ∷ []) ∙ ap (λ (l : List Chooses). ls ++ fixed first ∷ l) (sym (one_fixed_more order))) so

  pub first_tried : (order : ℕ) → IsBest hs most d s (ls ++ fixed order ∷ fixed_below order) best → IsBest hs most d s (ls ++ fixed order ∷ fixed_below (order + 1)) best
  first_tried order so = same_best hs most d s (ls ++ fixed order ∷ fixed_below order) (ls ++ fixed order ∷ fixed_below (order + 1)) best
      (λ p h. elim (among_either p ls (fixed order ∷ fixed_below order) h) [ inl a ↦ among_left p ls _ a | inr b ↦ among_right p ls _ (to p b) ])
      (λ p h. elim (among_either p ls (fixed order ∷ fixed_below (order + 1)) h) [ inl a ↦ among_left p ls _ a | inr b ↦ among_right p ls _ (from p b) ]) so
    where
      to : (p : Chooses) → Among p (fixed order ∷ fixed_below order) → Among p (fixed order ∷ fixed_below (order + 1))
      to p h = elim h [ inl e ↦ inl e | inr b ↦ inr (rw (one_fixed_more order) (among_more (fixed order) p (fixed_below order) b)) ]

      from : (p : Chooses) → Among p (fixed order ∷ fixed_below (order + 1)) → Among p (fixed order ∷ fixed_below order)
      from p h = elim h [
        | inl e ↦ inl e
        | inr b ↦ let b' : Among p (fixed_below order ++ fixed order ∷ []) = rw (one_fixed_more order) at b in elim (among_split (fixed order) p (fixed_below order) b') [ inl c ↦ inr c | inr e ↦ inl e ]
      ]

  -- the linear ones were tried before the fixed ones, of which one was tried before the others
  pub all_tried : (first : ℕ) → Among (fixed first) (fixed_below 5) → IsBest hs most d s (ls ++ fixed first ∷ fixed_below 5) best → IsBest hs most d s (fixed_below 5 ++ ls) best
  all_tried first one so = same_best hs most d s (ls ++ fixed first ∷ fixed_below 5) (fixed_below 5 ++ ls) best
      (λ p h. elim (among_either p ls (fixed first ∷ fixed_below 5) h) [ inl a ↦ among_right p (fixed_below 5) ls a | inr b ↦ among_left p (fixed_below 5) ls (elim b [ inl e ↦ rw e one | inr c ↦ c ]) ])
      (λ p h. elim (among_either p (fixed_below 5) ls h) [ inl a ↦ among_right p ls _ (inr a) | inr b ↦ among_left p ls _ b ]) so

-- ---- a linear predictor more

linear_more : (ps : List LinearPredictor) (i : ℕ) → i < length ps → map predictor_of (take (i + 1) ps) ≡ map predictor_of (take i ps) ++ handed_at ps i ∷ []
linear_more [] i within = absurd (omega (arith, within))
linear_more (q ∷ qs) i within =
    map_more predictor_of (q ∷ qs) i q within
    ∙ ap (λ (x : Chooses). map predictor_of (take i (q ∷ qs)) ++ x ∷ []) (sym (get_or-map predictor_of (q ∷ qs) i q (fixed 0) within))

pub one_linear_more : (tried : List Chooses) (ps : List LinearPredictor) (i : ℕ) → i < length ps → tried ++ map predictor_of (take (i + 1) ps) ≡ (tried ++ map predictor_of (take i ps)) ++ handed_at ps i ∷ []
one_linear_more tried ps i within =
    ap (λ (l : List Chooses). tried ++ l) (linear_more ps i within)
    ∙ sym (append_assoc tried (map predictor_of (take i ps)) (handed_at ps i ∷ []))
