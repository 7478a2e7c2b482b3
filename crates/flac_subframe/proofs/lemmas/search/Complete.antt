-- Each valid form of the family that has some samples is one that stands for them.
use Rattle.std.proofs.Common.{◌≡◌, ◌∙◌, ◌⊎◌, inl, inr, refl, sym, ap, ℕ, zero, suc, ◌+◌, ◌-◌, ◌*◌, ◌/◌, ◌%◌, ◌^◌, ◌≤◌, ◌<◌, arith, ℤ, List, [], ◌∷◌, ◌++◌, Bool, true, false, ◌&&◌, nat_eq, nat_lt, cond, Some, None, length, length-append, take, drop, map, All}
use Rattle.std.proofs.Math.Nat.{suc-mul, div-add-mod, pow-le-pow_right}
use Rattle.std.proofs.Math.Seq.{take-append_seam, drop-append_seam}
use Rattle.std.proofs.lemmas.Bool.Decides.{nat_tests}
use Rattle.std.proofs.lemmas.Int.{ints}
use Rattle.std.proofs.lemmas.List.{length-map, length-replicate}
use Rattle.std.proofs.lemmas.List.Elements.{All-append}
use Rattle.std.proofs.lemmas.Nat.{pow_pos}
use Rattle.flac_bits.specs.Rice.{IsResidual}
use Rattle.flac_subframe.specs.declared.format.coding.Coding.{Coding}
use Rattle.flac_subframe.specs.declared.format.coding.Coding.TheVariants.{Rice, Escape}
use Rattle.flac_subframe.specs.declared.format.limits.Limits.{Limits}
use Rattle.flac_subframe.specs.declared.format.linear.LinearPredictor.{LinearPredictor}
use Rattle.flac_subframe.specs.format.Bodies.{fixed, linear, Among, Body, constant, verbatim, predicted, StandsFor, content_of, cut, residual_of}
use Rattle.flac_subframe.specs.format.Chosen.{offered}
use Rattle.flac_subframe.specs.format.Handed.{predictor_of}
use Rattle.flac_subframe.specs.format.Cost.{Codings, MayCode, MayCodeEach, MayWrite}
use Rattle.flac_subframe.specs.search.FamilyLaws.{WithoutLinear, FamilyIsWhole, IsOneOf, WithLinear, FamilyWithIsWhole}
use Rattle.flac_subframe.specs.format.Prediction.{fixed_coefficients, Restored}
use Rattle.flac_subframe.specs.format.Residual.{Partition, Residual, all_values, residual_values}
use Rattle.flac_subframe.specs.format.Spelling.{FitsWidth, IsCoded, ArePartitions, MayLeave, MayHold, IsSubframe}
use Rattle.flac_subframe.specs.format.Subframe.{Content, Constant, Verbatim, Fixed, Linear, Predictor, Form, restored_samples, samples_of, scaled, fitting}
use Rattle.flac_subframe.specs.format.Wasted.{times_power}
use Rattle.flac_subframe.proofs.lemmas.format.Predicted.{fixed_length}
use Rattle.flac_subframe.proofs.lemmas.format.Whole.{samples_restored}

-- ---- partitions

narrow : (n : ℕ) (z : ℤ) → n < 2 ^ 5 → FitsWidth n z → IsResidual z
narrow zero z lt e = rw e (record { low = omega (arith, ints); high = omega (arith, ints) })
narrow (suc n) z lt f =
    let p : 2 ^ (suc n - 1) ≤ 2 ^ 30 = pow-le-pow_right {n = 2} (omega arith) {i = suc n - 1} {j = 30} (omega (arith, lt)) in
    record { low = omega (arith, ints, f.low, f.high, p); high = omega (arith, ints, f.low, f.high, p) }

abbrev coding_of : Partition → Coding
coding_of p = p.coding

coded_long : (w n : ℕ) (c : Coding) (values : List ℤ) → IsCoded w n c values → length values ≡ n
coded_long w n (Rice k) values h = h.1
coded_long w n (Escape width) values h = h.1

coded_range : (w n : ℕ) (c : Coding) (values : List ℤ) → IsCoded w n c values → All IsResidual values
coded_range w n (Rice k) values h = h.2
coded_range w n (Escape width) values h = λ i d lt. narrow width _ h.0 (h.2 i d lt)

may_code : (w n : ℕ) (c : Coding) (values : List ℤ) → IsCoded w n c values → MayCode w values c
may_code w n (Rice k) values h = h.0
may_code w n (Escape width) values h = (h.0, h.2)

module _ (w : ℕ) where
  front : (first : ℕ) (p : Partition) (ps : List Partition) → IsCoded w first p.coding p.values → take first (p.values ++ all_values ps) ≡ p.values
  front first p ps h = rw (← coded_long w first p.coding p.values h) (take-append_seam p.values (all_values ps))

  after : (first : ℕ) (p : Partition) (ps : List Partition) → IsCoded w first p.coding p.values → drop first (p.values ++ all_values ps) ≡ all_values ps
  after first p ps h = rw (← coded_long w first p.coding p.values h) (drop-append_seam p.values (all_values ps))

  recut : (first size : ℕ) (ps : List Partition) → ArePartitions w first size ps → cut first size (all_values ps) (map coding_of ps) ≡ ps
  unfolding cut
  recut first size [] h = refl
  recut first size (p ∷ ps) h = rw (front first p ps h.0, after first p ps h.0, recut size size ps h.1) refl

  each_may : (first size : ℕ) (ps : List Partition) → ArePartitions w first size ps → MayCodeEach w first size (all_values ps) (map coding_of ps)
  each_may first size [] h = tt
  each_may first size (p ∷ ps) h = rw (front first p ps h.0, after first p ps h.0) (may_code w first p.coding p.values h.0, each_may size size ps h.1)

  in_range : (first size : ℕ) (ps : List Partition) → ArePartitions w first size ps → All IsResidual (all_values ps)
  in_range first size [] h = λ i d lt. absurd (omega (arith, lt))
  in_range first size (p ∷ ps) h = All-append IsResidual p.values (all_values ps) (coded_range w first p.coding p.values h.0) (in_range size size ps h.1)

  many : (first size : ℕ) (ps : List Partition) → 0 < length ps → ArePartitions w first size ps → length (all_values ps) + size ≡ first + length ps * size
  many first size [] some h = absurd (omega (arith, some))
  many first size (p ∷ []) some h = omega (arith, length-append p.values [], coded_long w first p.coding p.values h.0, suc-mul 0 size)
  many first size (p ∷ (q ∷ ps)) some h =
      omega (arith, length-append p.values (all_values (q ∷ ps)), coded_long w first p.coding p.values h.0, many size size (q ∷ ps) (omega arith) h.1, suc-mul (length (q ∷ ps)) size)

and_true : (a b : Bool) → a && b ≡ true → (a ≡ true) × (b ≡ true)
and_true true b e = (refl, e)
and_true false b e = (e, absurd (no e))
  where
    no : false ≡ true → ⊥
    no z = cc

-- ---- a residual that a predictor may leave is one that may be written

module _ (most limit order block : ℕ) (r : Residual) (small : limit ≤ most) (left : MayLeave limit order block r) where
  abbrev pub codings_in : Codings
  codings_in = record { parameter_bits = 4 + r.method; partition_order = r.order; codings = map coding_of r.partitions }

  even : block % 2 ^ r.order ≡ 0
  even = let t = (and_true (nat_eq (block % 2 ^ r.order) 0) (nat_lt order (block / 2 ^ r.order)) left.halves).0 in grind (arith, nat_tests)

  room : order < block / 2 ^ r.order
  room = let t = (and_true (nat_eq (block % 2 ^ r.order) 0) (nat_lt order (block / 2 ^ r.order)) left.halves).1 in grind (arith, nat_tests)

  pub whole : length (residual_values r) + order ≡ block
  whole =
      let size : ℕ = block / 2 ^ r.order in
      let all : 2 ^ r.order * size + block % 2 ^ r.order ≡ block = div-add-mod block (2 ^ r.order) in
      let parts : length r.partitions * size ≡ 2 ^ r.order * size = ap (λ n. n * size) left.many in
      omega (arith, many (4 + r.method) (size - order) size r.partitions (omega (arith, left.many, pow_pos r.order)) left.each, all, parts, even, room)

  either : (m : ℕ) → m < 2 → (4 + m ≡ 4) ⊎ (4 + m ≡ 5)
  either zero lt = inl refl
  either (suc zero) lt = inr refl
  either (suc (suc m)) lt = absurd (omega (arith, lt))

  pub may_write : MayWrite most order (residual_values r) codings_in
  may_write = record {
    method = either r.method left.method;
    few = omega (arith, left.allowed, small);
    even = rw whole even;
    room = rw whole room;
    each = length-map r.partitions coding_of ∙ left.many;
    codings = rw whole (each_may (4 + r.method) (block / 2 ^ r.order - order) (block / 2 ^ r.order) r.partitions left.each);
  }

  pub values_range : All IsResidual (residual_values r)
  values_range = in_range (4 + r.method) (block / 2 ^ r.order - order) (block / 2 ^ r.order) r.partitions left.each

  pub same_residual : residual_of order (residual_values r) codings_in ≡ r
  same_residual =
      let method : 4 + r.method - 4 ≡ r.method = omega arith in
      rw (whole, method, recut (4 + r.method) (block / 2 ^ r.order - order) (block / 2 ^ r.order) r.partitions left.each) refl

-- ---- a content

pub among : (n : ℕ) (ps : List LinearPredictor) → n ≤ 4 → Among (fixed n) (offered ps)
among zero ps le = inl refl
among (suc zero) ps le = inr (inl refl)
among (suc (suc zero)) ps le = inr (inr (inl refl))
among (suc (suc (suc zero))) ps le = inr (inr (inr (inl refl)))
among (suc (suc (suc (suc zero)))) ps le = inr (inr (inr (inr (inl refl))))
among (suc (suc (suc (suc (suc n))))) ps le = absurd (omega (arith, le))

as_handed : (p : Predictor) (ps : List LinearPredictor) → IsOneOf p ps → Among (linear p.precision p.shift p.coefficients) (map predictor_of ps)
as_handed p [] h = h
as_handed p (q ∷ ps) (inl e) = inl (ap (λ (x : Predictor). linear x.precision x.shift x.coefficients) e)
as_handed p (q ∷ ps) (inr h) = inr (as_handed p ps h)

module _ (most depth block : ℕ) (limits : Limits) (ps : List LinearPredictor) (small : limits.partition ≤ most) where
  body_in : (c : Content) → MayHold depth block limits c → WithLinear ps c → (b : Body) × (c ≡ content_of b) × StandsFor most (offered ps) b (restored_samples block c)
  body_in (Constant v) may plain = (constant v, refl, rw (length-replicate block v) refl)
  body_in (Verbatim vs) may plain = (verbatim vs, refl, refl)
  body_in (Fixed ws rest) may plain =
      let n : ℕ = length ws in
      let cs : List ℤ = fixed_coefficients n in
      let rs : List ℤ = residual_values rest in
      let leave = may.3 in
      let size : length cs ≡ n = fixed_length n may.0 in
      let restored' : Restored cs 0 (ws ++ rs) (restored_samples block (Fixed ws rest)) = (samples_restored block (Fixed ws rest) (restored_samples block (Fixed ws rest)) tt).1 refl in
      let long : length rs + n ≡ block = whole most limits.partition n block rest small leave in
      let f : Codings = codings_in most limits.partition n block rest small leave in
      let written : MayWrite most (length cs) rs f = rw size (may_write most limits.partition n block rest small leave) in
      let same : residual_of (length cs) rs f ≡ rest = rw size (same_residual most limits.partition n block rest small leave) in (
        predicted (fixed n) ws f rs,
        ap (Fixed ws) (sym same),
        (
          among n ps may.0,
          record {
            room = omega (arith, size, may.1, restored'.long, length-append ws rs, long);
            long = sym size;
            restored = restored';
            range = values_range most limits.partition n block rest small leave;
            written = written;
          },
        ),
      )
  body_in (Linear ws chosen rest) may plain =
      let n : ℕ = length ws in
      let cs : List ℤ = chosen.coefficients in
      let rs : List ℤ = residual_values rest in
      let leave = may.5 in
      let size : length cs ≡ n = may.4.many in
      let c : Content = Linear ws chosen rest in
      let restored' : Restored cs chosen.shift (ws ++ rs) (restored_samples block c) = (samples_restored block c (restored_samples block c) (sym size)).1 refl in
      let long : length rs + n ≡ block = whole most limits.partition n block rest small leave in
      let f : Codings = codings_in most limits.partition n block rest small leave in
      let written : MayWrite most (length cs) rs f = rw size (may_write most limits.partition n block rest small leave) in
      let same : residual_of (length cs) rs f ≡ rest = rw size (same_residual most limits.partition n block rest small leave) in (
        predicted (linear chosen.precision chosen.shift cs) ws f rs,
        ap (Linear ws chosen) (sym same),
        (
          inr (inr (inr (inr (inr (as_handed chosen ps plain))))),
          record {
            room = omega (arith, size, may.2, restored'.long, length-append ws rs, long);
            long = sym size;
            restored = restored';
            range = values_range most limits.partition n block rest small leave;
            written = written;
          },
        ),
      )

-- ---- a form

scaled_is : (k : ℕ) (b : Bool) (t s : List ℤ) → scaled k (cond b (Some t) None) ≡ Some s → s ≡ map (times_power k) t
scaled_is k true t s e = sym (of_some e)
  where
    of_some : {xs ys : List ℤ} → Some xs ≡ Some ys → xs ≡ ys
    of_some z = cc
scaled_is k false t s e = absurd (no e)
  where
    no : {xs : List ℤ} → None ≡ Some xs → ⊥
    no z = cc

pub family_with_whole : FamilyWithIsWhole
unfolding fitting
family_with_whole most depth block limits ps f s small valid samples family =
    let b = body_in most (depth - f.wasted) block limits ps small f.content valid.content family.plain in
    record { wasted = family.wasted; body = (b.0, restored_samples block f.content, b.1, scaled_is f.wasted _ (restored_samples block f.content) s samples, b.2) }

pub none_linear : (c : Content) → WithoutLinear c → WithLinear [] c
none_linear (Constant v) h = tt
none_linear (Verbatim vs) h = tt
none_linear (Fixed ws rest) h = tt
none_linear (Linear ws chosen rest) h = h

pub family_whole : FamilyIsWhole
family_whole depth block limits f s small valid samples family =
    family_with_whole 8 depth block limits [] f s small valid samples (record { plain = none_linear f.content family.plain; wasted = family.wasted })

body_long : (depth block : ℕ) (limits : Limits) (c : Content) → limits.partition ≤ 8 → MayHold depth block limits c → length (restored_samples block c) ≡ block
body_long depth block limits (Constant v) small may = length-replicate block v
body_long depth block limits (Verbatim vs) small may = may.many
body_long depth block limits (Fixed ws rest) small may =
    let restored' : Restored (fixed_coefficients (length ws)) 0 (ws ++ residual_values rest) (restored_samples block (Fixed ws rest)) = (samples_restored block (Fixed ws rest) (restored_samples block (Fixed ws rest)) tt).1 refl in
    omega (arith, restored'.long, length-append ws (residual_values rest), whole 8 limits.partition (length ws) block rest small may.3)
body_long depth block limits (Linear ws chosen rest) small may =
    let c : Content = Linear ws chosen rest in
    let predict = may.4 in
    let restored' : Restored chosen.coefficients chosen.shift (ws ++ residual_values rest) (restored_samples block c) = (samples_restored block c (restored_samples block c) (sym predict.many)).1 refl in
    omega (arith, restored'.long, length-append ws (residual_values rest), whole 8 limits.partition (length ws) block rest small may.5)

-- the samples of a form are as many as the block has
pub samples_long : (depth block : ℕ) (limits : Limits) (f : Form) (s : List ℤ) → limits.partition ≤ 8 → IsSubframe depth block limits f → samples_of depth block f ≡ Some s → length s ≡ block
unfolding fitting
samples_long depth block limits f s small valid samples =
    ap (λ (l : List ℤ). length l) (scaled_is f.wasted _ (restored_samples block f.content) s samples) ∙ length-map (restored_samples block f.content) (times_power f.wasted) ∙ body_long (depth - f.wasted) block limits f.content small valid.content
