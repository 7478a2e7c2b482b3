-- A choice that was made of samples.
use Rattle.std.proofs.Common.{◌≡◌, ◌∙◌, inl, inr, refl, sym, ap, subst, ℕ, suc, ◌+◌, ◌≤◌, ◌<◌, arith, ℤ, List, [], ◌∷◌, length, take, map, get_or}
use Rattle.std.proofs.lemmas.List.{length-take-le, get_or_default, get_or-map}
use Rattle.flac_subframe.specs.declared.format.content.ContentKind.{ContentKind}
use Rattle.flac_subframe.specs.declared.format.content.ContentKind.TheVariants.{Constant, Verbatim, Predicted}
use Rattle.flac_subframe.specs.declared.format.content.SubframeForm.{SubframeForm}
use Rattle.flac_subframe.specs.declared.format.content.PredictorKind.TheVariants.{Fixed, Linear}
use Rattle.flac_subframe.specs.declared.format.linear.LinearPredictor.{LinearPredictor}
use Rattle.flac_subframe.specs.format.Bodies.{Chooses, fixed, linear, order_of, Among, Body, constant, verbatim, predicted, StandsFor, content_of}
use Rattle.flac_subframe.specs.format.Cost.{Codings, MayWrite, codings_of}
use Rattle.flac_subframe.specs.format.Chosen.{body_under, body_as, HasPredictor, offered}
use Rattle.flac_subframe.specs.format.Handed.{coefficients_in, predictor_of, handed_at, AreWithin}
use Rattle.flac_subframe.specs.format.Family.{IsMadeAs}
use Rattle.flac_subframe.specs.format.inner.Family.{type_number}
use Rattle.flac_subframe.specs.format.Wasted.{shortened}
use Rattle.flac_subframe.specs.format.Spelling.{type_of}
use Rattle.flac_subframe.specs.format.Prediction.{fixed_coefficients}
use Rattle.flac_subframe.proofs.lemmas.format.Differences.{length-fixed}

-- the one at a place of the list
pub at_place : (ps : List LinearPredictor) (i : ℕ) (p : LinearPredictor) → i < length ps → p ≡ get_or ps i p → handed_at ps i ≡ predictor_of p
at_place ps i p within is = get_or-map predictor_of ps i p (fixed 0) within ∙ ap predictor_of (sym is)

order_is : (a b : ℕ) → fixed a ≡ fixed b → a ≡ b
order_is a b e = cc

-- no linear predictor is a fixed one
not_fixed : (order : ℕ) (ps : List LinearPredictor) → Among (fixed order) (map predictor_of ps) → ⊥
not_fixed order [] h = h
not_fixed order (p ∷ ps) (inl e) = cc
not_fixed order (p ∷ ps) (inr h) = not_fixed order ps h

pub among_few : (order : ℕ) (ps : List LinearPredictor) → Among (fixed order) (offered ps) → order ≤ 4
among_few order ps (inl e) = omega (arith, order_is order 0 e)
among_few order ps (inr (inl e)) = omega (arith, order_is order 1 e)
among_few order ps (inr (inr (inl e))) = omega (arith, order_is order 2 e)
among_few order ps (inr (inr (inr (inl e)))) = omega (arith, order_is order 3 e)
among_few order ps (inr (inr (inr (inr (inl e))))) = omega (arith, order_is order 4 e)
among_few order ps (inr (inr (inr (inr (inr h))))) = absurd (not_fixed order ps h)

-- a linear predictor is one of those that were handed in
pub among_handed : (precision shift : ℕ) (cs : List ℤ) (ps : List LinearPredictor) → Among (linear precision shift cs) (offered ps) → Among (linear precision shift cs) (map predictor_of ps)
among_handed precision shift cs ps (inl e) = cc
among_handed precision shift cs ps (inr (inl e)) = cc
among_handed precision shift cs ps (inr (inr (inl e))) = cc
among_handed precision shift cs ps (inr (inr (inr (inl e)))) = cc
among_handed precision shift cs ps (inr (inr (inr (inr (inl e))))) = cc
among_handed precision shift cs ps (inr (inr (inr (inr (inr h))))) = h

-- which of them it is
pub handed_one : (limit : ℕ) (p : Chooses) (ps : List LinearPredictor) → AreWithin limit ps → Among p (map predictor_of ps) → (q : LinearPredictor) × (p ≡ predictor_of q) × (length (coefficients_in q) ≤ limit)
handed_one limit p [] within h = absurd h
handed_one limit p (q ∷ ps) within (inl e) = (q, e, within 0 q (omega arith))
handed_one limit p (q ∷ ps) within (inr h) = handed_one limit p ps (λ i d lt. within (suc i) d (omega arith)) h

-- the one at a place of the list
linear_type : (x : Chooses) (q : LinearPredictor) (f : Codings) (t : List ℤ) → x ≡ predictor_of q → order_of x ≤ length t → 31 + order_of x ≡ type_of (content_of (body_under x f t))
linear_type x q f t e room =
    let P : Chooses → Type 0 = λ y. order_of y ≤ length t → 31 + order_of y ≡ type_of (content_of (body_under y f t)) in
    subst P (sym e) (λ few. omega (arith, length-take-le (length (coefficients_in q)) t few)) room

one_type : (hs : List LinearPredictor) (i : ℕ) (f : Codings) (t : List ℤ) → i < length hs → order_of (handed_at hs i) ≤ length t → 31 + order_of (handed_at hs i) ≡ type_of (content_of (body_under (handed_at hs i) f t))
one_type [] i f t within room = absurd (omega (arith, within))
one_type (q ∷ qs) i f t within room = linear_type (handed_at (q ∷ qs) i) (get_or (q ∷ qs) i q) f t (at_place (q ∷ qs) i (get_or (q ∷ qs) i q) within (get_or_default (q ∷ qs) i q (get_or (q ∷ qs) i q) within)) room

module _ (hs : List LinearPredictor) where
  pub type_is : (most : ℕ) (c : ContentKind) (f : Codings) (t : List ℤ) → HasPredictor hs c → StandsFor most (offered hs) (body_as hs c f t) t → type_number hs c ≡ type_of (content_of (body_as hs c f t))
  type_is most Constant f t has h = refl
  type_is most Verbatim f t has h = refl
  type_is most (Predicted (Fixed order)) f t has h =
      let few = length-fixed order has in
      let room = h.1.room in
      let e : length (take (length (fixed_coefficients order)) t) ≡ length (fixed_coefficients order) = length-take-le (length (fixed_coefficients order)) t (omega (arith, room)) in
      omega (arith, e, few)
  type_is most (Predicted (Linear index)) f t has h =
      let room = h.1.room in
      one_type hs index f t has (omega (arith, room))

-- what stands with few partition orders stands with more
pub fewer_orders : (most more : ℕ) (ps : List Chooses) (b : Body) (t : List ℤ) → most ≤ more → StandsFor most ps b t → StandsFor more ps b t
fewer_orders most more ps (constant v) t le h = h
fewer_orders most more ps (verbatim vs) t le h = h
fewer_orders most more ps (predicted p ws f rs) t le h =
    let so = h.1 in
    let w = so.written in
    let written : MayWrite more (order_of p) rs f = record { method = w.method; few = omega (arith, w.few, le); even = w.even; room = w.room; each = w.each; codings = w.codings } in
    (h.0, record { room = so.room; long = so.long; restored = so.restored; range = so.range; written = written })

-- no order is above 32
pub all_within : (ps : List LinearPredictor) → AreWithin 32 ps
all_within ps = λ i d lt. (get_or ps i d).few

-- a choice that was made with few partition orders is one with more
pub made_of_fewer : (most more : ℕ) (ps : List LinearPredictor) (c : SubframeForm) (bytes : List ℕ) (s : List ℤ) → most ≤ more → IsMadeAs most ps c bytes s → IsMadeAs more ps c bytes s
made_of_fewer most more ps c bytes s le made = record {
  wasted = made.wasted;
  times = made.times;
  within = made.within;
  stands = fewer_orders most more (offered ps) (body_as ps c.content (codings_of c.residual bytes) (shortened c.wasted s)) (shortened c.wasted s) le made.stands;
}
