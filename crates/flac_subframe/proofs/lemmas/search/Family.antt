-- A form that stands for samples may be spelled, has these samples, and is of the family in plain words.
use Rattle.std.proofs.Common.{◌≡◌, ◌∙◌, inl, inr, sym, ap, subst, ℕ, ◌+◌, ◌-◌, ◌^◌, ◌≤◌, ◌<◌, arith, ℤ, pos, List, [], ◌∷◌, length, map, get_or, Some, All}
use Rattle.std.proofs.lemmas.Bool.{cases_lt}
use Rattle.std.proofs.lemmas.Int.{ints}
use Rattle.std.proofs.lemmas.List.{length-map, get_or-map, get_or_default}
use Rattle.std.proofs.Math.Nat.{pow-le-pow_right}
use Rattle.flac_bits.specs.Signed.{FitsBits}
use Rattle.flac_subframe.specs.declared.format.limits.Limits.{Limits}
use Rattle.flac_subframe.specs.declared.format.linear.LinearPredictor.{LinearPredictor}
use Rattle.flac_subframe.specs.format.Bodies.{fixed, linear, Among, Body, constant, verbatim, predicted, StandsFor, content_of}
use Rattle.flac_subframe.specs.format.Chosen.{fixed_below, offered}
use Rattle.flac_subframe.specs.format.Handed.{predictor_of, AreWithin}
use Rattle.flac_subframe.specs.format.Family.{Stands}
use Rattle.flac_subframe.specs.search.FamilyLaws.{WithoutLinear, InFamily, FamilyIsPlain, IsOneOf, WithLinear, InFamilyWith, FamilyWithIsPlain}
use Rattle.flac_subframe.specs.format.Numbers.{sample_at}
use Rattle.flac_subframe.specs.format.Spelling.{IsSubframe}
use Rattle.flac_subframe.specs.format.Subframe.{Content, Constant, Verbatim, Fixed, Linear, Form, samples_of}
use Rattle.flac_subframe.specs.format.Wasted.{times_power, Multiple, IsWasted}
use Rattle.flac_subframe.proofs.lemmas.format.Powers.{silent}
use Rattle.flac_subframe.proofs.lemmas.format.Made.{among_handed}
use Rattle.flac_subframe.proofs.lemmas.search.Valid.{may_be, are_samples}

-- ---- one bit at least is left of samples that lack some

pub fits_more : (n m : ℕ) (z : ℤ) → n ≤ m → FitsBits n z → FitsBits m z
fits_more n m z few f =
    let up : 2 ^ (n - 1) ≤ 2 ^ (m - 1) = pow-le-pow_right {n = 2} (omega arith) {i = n - 1} {j = m - 1} (omega (arith, few)) in
    record { low = omega (arith, ints, f.low, up); high = omega (arith, ints, f.high, up) }

zero_times : (k : ℕ) → times_power k (pos 0) ≡ pos 0
zero_times k = omega (arith, ints)

module _ (depth k : ℕ) (s t : List ℤ) (deep : 1 ≤ depth) (fits : All (FitsBits depth) s) (times : s ≡ map (times_power k) t) where
  long : length t ≡ length s
  long = sym (length-map t (times_power k)) ∙ ap (λ (l : List ℤ). length l) (sym times)

  each : (i : ℕ) → i < length s → sample_at s i ≡ times_power k (sample_at t i)
  each i h = ap (λ (l : List ℤ). sample_at l i) times ∙ get_or-map (times_power k) t i (pos 0) (pos 0) (omega (arith, long, h))

  pub wasted_less : IsWasted k s → k < depth
  wasted_less (inl (zeros, e)) = omega (arith, e, deep)
  wasted_less (inr (multiple, most)) = elim (cases_lt k depth) [
    | inl b ↦ b
    | inr b ↦
        let wide : All (FitsBits k) s = λ i d h. fits_more depth k (get_or s i d) b (fits i d h) in
        let more : All (Multiple (k + 1)) s = λ i d h.
        (pos 0, get_or_default s i d (pos 0) h ∙ (silent k s t long each (omega (arith, b, deep)) wide i h).1 ∙ sym (zero_times (k + 1))) in
        absurd (omega (arith, most (k + 1) more))
  ]

-- ---- a form

as_one : (precision shift : ℕ) (cs : List ℤ) (ps : List LinearPredictor) → Among (linear precision shift cs) (map predictor_of ps) → IsOneOf (record { precision = precision; shift = shift; coefficients = cs }) ps
as_one precision shift cs [] h = h
as_one precision shift cs (q ∷ ps) (inl e) = inl cc
as_one precision shift cs (q ∷ ps) (inr h) = inr (as_one precision shift cs ps h)

with_linear : (most : ℕ) (ps : List LinearPredictor) (b : Body) (t : List ℤ) → StandsFor most (offered ps) b t → WithLinear ps (content_of b)
with_linear most ps (constant v) t h = tt
with_linear most ps (verbatim vs) t h = tt
with_linear most ps (predicted (fixed order) ws f rs) t h = tt
with_linear most ps (predicted (linear precision shift cs) ws f rs) t h = as_one precision shift cs ps (among_handed precision shift cs ps h.0)

pub in_family_with : (most : ℕ) (ps : List LinearPredictor) (f : Form) (s : List ℤ) → Stands most (offered ps) f s → InFamilyWith ps f s
in_family_with most ps f s h = let body = h.body in record { plain = subst (WithLinear ps) (sym body.2) (with_linear most ps body.0 body.1 body.4); wasted = h.wasted }

module _ (most depth : ℕ) (limits : Limits) (ps : List LinearPredictor) (f : Form) (s : List ℤ) (deep : 1 ≤ depth) (some : 0 < length s) (orders : most ≤ limits.partition) (few : most ≤ 15) (within : AreWithin limits.linear ps)
    (fits : All (FitsBits depth) s) (h : Stands most (offered ps) f s) where
  abbrev form_with : Content → Form
  form_with c = record { wasted = f.wasted; content = c }

  pub family_with_stand : IsSubframe depth (length s) limits f × (samples_of depth (length s) f ≡ Some s)
  family_with_stand =
      let body = h.body in
      let left : f.wasted < depth = wasted_less depth f.wasted s body.1 deep fits body.3 h.wasted in (
        subst (λ c. IsSubframe depth (length s) limits (form_with c)) (sym body.2) (may_be most depth f.wasted s body.1 left body.3 fits limits ps body.0 some orders few within body.4),
        subst (λ c. samples_of depth (length s) (form_with c) ≡ Some s) (sym body.2) (are_samples most depth f.wasted s body.1 left body.3 fits ps body.0 body.4),
      )

pub family_with_plain : FamilyWithIsPlain
family_with_plain most depth limits ps f s deep some orders few within fits h =
    let both = family_with_stand most depth limits ps f s deep some orders few within fits h in
    (both.0, both.1, in_family_with most ps f s h)

-- ---- a form without linear predictors

pub none_within : (limit : ℕ) → AreWithin limit []
none_within limit = λ i d lt. absurd (omega (arith, lt))

pub no_linear : (c : Content) → WithLinear [] c → WithoutLinear c
no_linear (Constant v) h = tt
no_linear (Verbatim vs) h = tt
no_linear (Fixed ws rest) h = tt
no_linear (Linear ws chosen rest) h = h

pub in_family : (f : Form) (s : List ℤ) → Stands 8 (fixed_below 5) f s → InFamily f s
in_family f s h = let so = in_family_with 8 [] f s h in record { plain = no_linear f.content so.plain; wasted = so.wasted }

module _ (depth : ℕ) (limits : Limits) (f : Form) (s : List ℤ) (deep : 1 ≤ depth) (some : 0 < length s) (orders : 8 ≤ limits.partition) (fits : All (FitsBits depth) s) (h : Stands 8 (fixed_below 5) f s) where
  pub may_stand : IsSubframe depth (length s) limits f × (samples_of depth (length s) f ≡ Some s)
  may_stand = family_with_stand 8 depth limits [] f s deep some orders (omega arith) (none_within limits.linear) fits h

pub family_plain : FamilyIsPlain
family_plain depth limits f s deep some orders fits h = let both = may_stand depth limits f s deep some orders fits h in (both.0, both.1, in_family f s h)
