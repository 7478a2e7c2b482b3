-- The least body for some samples, one predictor after another.
use Rattle.std.proofs.Common.{◌≡◌, ◌⊎◌, ◌∙◌, refl, sym, subst, inl, inr, ℕ, ◌+◌, ◌-◌, ◌*◌, ◌≤◌, ◌<◌, arith, ℤ, pos, List, [], ◌∷◌, ◌++◌, length, take, replicate, get_or, length-append}
use Rattle.std.specs.List.{flat_map}
use Rattle.std.proofs.lemmas.Int.{ints}
use Rattle.std.proofs.lemmas.List.{same_lists, get_or_append_left, get_or-append-add, get_or-take, length-take-le, get_or_default}
use Rattle.std.proofs.lemmas.List.FromFn.{length-map-range_with_len, get_or-map-range_with_len}
use Rattle.std.proofs.Math.Nat.{le-mul_of_pos_right}
use Rattle.flac_subframe.specs.format.Numbers.{sample_at}
use Rattle.flac_subframe.specs.format.Prediction.{Restored}
use Rattle.flac_subframe.specs.format.Least.{IsLeast}
use Rattle.flac_bits.specs.Signed.{signed}
use Rattle.flac_subframe.specs.format.Cost.{MayWrite, Codings}
use Rattle.flac_subframe.specs.format.inner.Cost.{residual_cost}
use Rattle.flac_subframe.proofs.lemmas.format.Methods.{method_bits}
use Rattle.flac_subframe.proofs.lemmas.search.Lengths.{length-residual, length-signed, length-samples, length-predictor, length-two, length-three}
use Rattle.flac_subframe.specs.format.Spelling.{content_spelling, residual_spelling, predictor_spelling}
use Rattle.flac_subframe.specs.format.Bodies.{fields_cost, residual_of, Chooses, fixed, linear, coefficients_of, shift_of, order_of, Body, constant, verbatim, predicted, spelled, Among, Predicts, StandsFor, difference, differences}
use Rattle.flac_subframe.specs.format.Chosen.{body_under}
use Rattle.flac_subframe.specs.search.inner.Chosen.{IsLeastOf, HasNone}
use Rattle.flac_subframe.proofs.lemmas.format.Differences.{first_all}

-- ---- what bodies cost

pub length-constant : (d : ℕ) (v : ℤ) → length (spelled d (constant v)) ≡ d
unfolding content_spelling
length-constant d v = length-signed d v

pub length-verbatim : (d : ℕ) (s : List ℤ) → length (spelled d (verbatim s)) ≡ d * length s
unfolding content_spelling
length-verbatim d s = length-samples d s

pub length-predicted : (d : ℕ) (p : Chooses) (ws : List ℤ) (f : Codings) (rs : List ℤ) → 4 + (f.parameter_bits - 4) ≡ f.parameter_bits → length ws ≡ order_of p → length (spelled d (predicted p ws f rs)) ≡ d * length ws + fields_cost p + residual_cost (order_of p) rs f
unfolding content_spelling
length-predicted d (fixed order) ws f rs e long =
    let n : ℕ = order_of (fixed order) in
    length-two (flat_map (signed d) ws) (residual_spelling (residual_of n rs f)) ∙ rw (length-samples d ws, length-residual n rs f e) (omega arith)
length-predicted d (linear precision shift cs) ws f rs e long =
    length-three (flat_map (signed d) ws) (predictor_spelling (record { precision = precision; shift = shift; coefficients = cs })) (residual_spelling (residual_of (length cs) rs f))
    ∙ rw (length-samples d ws, length-predictor (record { precision = precision; shift = shift; coefficients = cs }), length-residual (length cs) rs f e) (omega arith)

-- ---- samples have one warm-up and one residual under a predictor

module _ (cs : List ℤ) (shift : ℕ) (s : List ℤ) where
  pub warm_up_is : (ws rs : List ℤ) → length ws ≡ length cs → Restored cs shift (ws ++ rs) s → ws ≡ take (length cs) s
  warm_up_is ws rs long so =
      let all : length s ≡ length ws + length rs = so.long ∙ length-append ws rs in
      let l : length (take (length cs) s) ≡ length cs = length-take-le (length cs) s (omega arith) in
      same_lists ws (take (length cs) s) (long ∙ sym l) (λ k d h.
      let k' : k < length cs = omega arith in
      get_or_default ws k d (pos 0) h ∙ sym (get_or_append_left ws rs (pos 0) k h) ∙ sym (so.warm_up k k')
      ∙ get_or_default s k (pos 0) d (omega arith) ∙ sym (get_or-take (length cs) s k d k'))

  pub residual_is : (ws rs : List ℤ) → length ws ≡ length cs → Restored cs shift (ws ++ rs) s → rs ≡ differences cs shift s
  unfolding difference
  residual_is ws rs long so =
      let all : length s ≡ length ws + length rs = so.long ∙ length-append ws rs in
      same_lists rs (differences cs shift s) (omega (arith, length-map-range_with_len (difference cs shift s) 0 (length s - length cs))) (λ k d h.
      let at : get_or (ws ++ rs) (length cs + k) (pos 0) ≡ get_or rs k (pos 0) = rw (← long) (get_or-append-add ws rs k (pos 0)) in
      let later = so.later (length cs + k) (omega arith) (omega (arith, length-append ws rs)) in
      let e : get_or rs k (pos 0) ≡ difference cs shift s k = omega (arith, ints, later, at) in
      get_or_default rs k d (pos 0) h ∙ e ∙ sym (get_or-map-range_with_len (difference cs shift s) 0 (length s - length cs) k k d (omega arith) (omega arith)))

  pub restored : length cs ≤ length s → Restored cs shift (take (length cs) s ++ differences cs shift s) s
  unfolding difference
  restored within =
      let l : length (take (length cs) s) ≡ length cs = length-take-le (length cs) s within in
      let m : length (differences cs shift s) ≡ length s - length cs = length-map-range_with_len (difference cs shift s) 0 (length s - length cs) in
      record {
        long = omega (arith, length-append (take (length cs) s) (differences cs shift s));
        warm_up = λ k h. sym (get_or_append_left (take (length cs) s) (differences cs shift s) (pos 0) k (omega arith) ∙ get_or-take (length cs) s k (pos 0) h);
        later = λ k g h.
            let j : ℕ = k - length cs in
            let is : length cs + j ≡ k = omega arith in
            let b : j < length s - length cs = omega (arith, length-append (take (length cs) s) (differences cs shift s)) in
            let at : get_or (take (length cs) s ++ differences cs shift s) (length cs + j) (pos 0) ≡ get_or (differences cs shift s) j (pos 0) =
            rw l at (get_or-append-add (take (length cs) s) (differences cs shift s) j (pos 0)) in
            let e : get_or (differences cs shift s) j (pos 0) ≡ difference cs shift s j = get_or-map-range_with_len (difference cs shift s) 0 (length s - length cs) j j (pos 0) b (omega arith) in
            rw (← is) (omega (arith, ints, at, e));
      }

-- ---- the least, one predictor after another

pub among_more : (p q : Chooses) (ps : List Chooses) → Among q ps → Among q (ps ++ p ∷ [])
among_more p q [] h = absurd h
among_more p q (x ∷ xs) h = elim h [ inl e ↦ inl e | inr w ↦ inr (among_more p q xs w) ]

pub among_last : (p : Chooses) (ps : List Chooses) → Among p (ps ++ p ∷ [])
among_last p [] = inl refl
among_last p (x ∷ xs) = inr (among_last p xs)

pub among_split : (p q : Chooses) (ps : List Chooses) → Among q (ps ++ p ∷ []) → Among q ps ⊎ (q ≡ p)
among_split p q [] h = elim h [ inl e ↦ inr e | inr w ↦ absurd w ]
among_split p q (x ∷ xs) h = elim h [ inl e ↦ inl (inl e) | inr w ↦ elim (among_split p q xs w) [ inl a ↦ inl (inr a) | inr e ↦ inr e ] ]

module _ (most d : ℕ) (s : List ℤ) (ps : List Chooses) (p : Chooses) where
  pub least_kept : (best : Body) → IsLeast (λ b. StandsFor most ps b s) (λ b. length (spelled d b)) best →
      ((ws : List ℤ) (f : Codings) (rs : List ℤ) → Predicts most p ws f rs s → length (spelled d best) ≤ length (spelled d (predicted p ws f rs))) →
      IsLeast (λ b. StandsFor most (ps ++ p ∷ []) b s) (λ b. length (spelled d b)) best
  least_kept best so more = record { member = wider best so.member; least = below }
    where
      wider : (b : Body) → StandsFor most ps b s → StandsFor most (ps ++ p ∷ []) b s
      wider (constant v) h = h
      wider (verbatim vs) h = h
      wider (predicted q ws f rs) h = (among_more p q ps h.0, h.1)

      below : (b : Body) → StandsFor most (ps ++ p ∷ []) b s → length (spelled d best) ≤ length (spelled d b)
      below (constant v) h = so.least (constant v) h
      below (verbatim vs) h = so.least (verbatim vs) h
      below (predicted q ws f rs) h = elim (among_split p q ps h.0) [
        | inl b ↦ so.least (predicted q ws f rs) (b, h.1)
        | inr e ↦
            let P : Chooses → Type 0 = λ x. Predicts most x ws f rs s → length (spelled d best) ≤ length (spelled d (predicted x ws f rs)) in
            subst P (sym e) (more ws f rs) h.1
      ]

  pub least_taken : (best : Body) (ws₁ : List ℤ) (f₁ : Codings) (rs₁ : List ℤ) → IsLeast (λ b. StandsFor most ps b s) (λ b. length (spelled d b)) best → Predicts most p ws₁ f₁ rs₁ s →
      length (spelled d (predicted p ws₁ f₁ rs₁)) ≤ length (spelled d best) →
      ((ws : List ℤ) (f : Codings) (rs : List ℤ) → Predicts most p ws f rs s → length (spelled d (predicted p ws₁ f₁ rs₁)) ≤ length (spelled d (predicted p ws f rs))) →
      IsLeast (λ b. StandsFor most (ps ++ p ∷ []) b s) (λ b. length (spelled d b)) (predicted p ws₁ f₁ rs₁)
  least_taken best ws₁ f₁ rs₁ so stands less more = record { member = (among_last p ps, stands); least = below }
    where
      below : (b : Body) → StandsFor most (ps ++ p ∷ []) b s → length (spelled d (predicted p ws₁ f₁ rs₁)) ≤ length (spelled d b)
      below (constant v) h = omega (arith, so.least (constant v) h)
      below (verbatim vs) h = omega (arith, so.least (verbatim vs) h)
      below (predicted q ws f rs) h = elim (among_split p q ps h.0) [
        | inl b ↦ omega (arith, so.least (predicted q ws f rs) (b, h.1))
        | inr e ↦
            let P : Chooses → Type 0 = λ x. Predicts most x ws f rs s → length (spelled d (predicted p ws₁ f₁ rs₁)) ≤ length (spelled d (predicted x ws f rs)) in
            subst P (sym e) (more ws f rs) h.1
      ]

  -- where a residual is the least for what the predictor leaves, its body is the least of that predictor
  pub body_stands : (f : Codings) (n : ℕ) → IsLeastOf most (coefficients_of p) (shift_of p) s f n →
      Predicts most p (take (order_of p) s) f (differences (coefficients_of p) (shift_of p) s) s
  body_stands f n so = let within : order_of p < length s = so.room in record {
    room = within;
    long = length-take-le (order_of p) s (omega arith);
    restored = restored (coefficients_of p) (shift_of p) s (omega arith);
    range = so.range;
    written = so.least.member;
  }

  pub body_costs : (f : Codings) (n : ℕ) → IsLeastOf most (coefficients_of p) (shift_of p) s f n → length (spelled d (body_under p f s)) ≡ d * order_of p + fields_cost p + n
  body_costs f n so = let within : order_of p < length s = so.room in
      length-predicted d p (take (order_of p) s) f (differences (coefficients_of p) (shift_of p) s) (method_bits f.parameter_bits so.least.member.method) (length-take-le (order_of p) s (omega arith)) ∙ rw (length-take-le (order_of p) s (omega arith), so.bits) refl

  pub body_least : (f : Codings) (n : ℕ) → IsLeastOf most (coefficients_of p) (shift_of p) s f n →
      (ws : List ℤ) (g : Codings) (rs : List ℤ) → Predicts most p ws g rs s → length (spelled d (body_under p f s)) ≤ length (spelled d (predicted p ws g rs))
  body_least f n so ws g rs stands =
      let e = residual_is (coefficients_of p) (shift_of p) s ws rs stands.long stands.restored in
      let may : MayWrite most (order_of p) (differences (coefficients_of p) (shift_of p) s) g = rw e at stands.written in
      rw (body_costs f n so, length-predicted d p ws g rs (method_bits g.parameter_bits stands.written.method) stands.long, stands.long, e, so.bits) (omega (arith, so.least.least g may))

  pub none_stands : HasNone (coefficients_of p) (shift_of p) s → (ws : List ℤ) (f : Codings) (rs : List ℤ) → Predicts most p ws f rs s → ⊥
  none_stands none ws f rs stands = elim none [
    | inl h ↦ omega (arith, stands.room)
    | inr h ↦ h (rw (residual_is (coefficients_of p) (shift_of p) s ws rs stands.long stands.restored) at stands.range)
  ]

module _ (most d : ℕ) (s : List ℤ) (some : 0 < length s) where
  pub constant_least : s ≡ replicate (length s) (sample_at s 0) → IsLeast (λ b. StandsFor most [] b s) (λ b. length (spelled d b)) (constant (sample_at s 0))
  constant_least same = record { member = same; least = below }
    where
      below : (b : Body) → StandsFor most [] b s → length (spelled d (constant (sample_at s 0))) ≤ length (spelled d b)
      below (constant v) h = omega (arith, length-constant d (sample_at s 0), length-constant d v)
      below (verbatim vs) h = rw (h, length-verbatim d s, length-constant d (sample_at s 0)) (le-mul_of_pos_right d some)
      below (predicted p ws f rs) h = absurd h.0

  pub verbatim_least : (s ≡ replicate (length s) (sample_at s 0) → ⊥) → IsLeast (λ b. StandsFor most [] b s) (λ b. length (spelled d b)) (verbatim s)
  verbatim_least differ = record { member = refl; least = below }
    where
      below : (b : Body) → StandsFor most [] b s → length (spelled d (verbatim s)) ≤ length (spelled d b)
      below (constant v) h = absurd (differ (let e : v ≡ sample_at s 0 = sym (first_all s v h 0 some) in rw e at h))
      below (verbatim vs) h = rw h (omega arith)
      below (predicted p ws f rs) h = absurd h.0
