-- Partitions that a residual was cut into.
use Rattle.std.proofs.Common.{◌≡◌, ◌∙◌, ◌⊎◌, inl, inr, refl, ap, ℕ, suc, ◌+◌, ◌-◌, ◌*◌, ◌/◌, ◌^◌, ◌≤◌, ◌<◌, arith, ℤ, List, [], ◌∷◌, ◌++◌, Bool, true, ◌&&◌, length, take, drop, All}
use Rattle.std.proofs.lemmas.Nat.{pow_pos}
use Rattle.std.proofs.Math.Nat.{suc-mul}
use Rattle.std.proofs.lemmas.Bool.{eq-eqb, lt-ltb}
use Rattle.std.proofs.lemmas.List.{append-nil, take_all, length-drop, length-take-le, take-append-drop}
use Rattle.std.proofs.lemmas.List.Elements.{All-take, All-drop}
use Rattle.flac_bits.specs.Rice.{IsResidual}
use Rattle.flac_subframe.specs.declared.format.coding.Coding.{Coding}
use Rattle.flac_subframe.specs.declared.format.coding.Coding.TheVariants.{Rice, Escape}
use Rattle.flac_subframe.specs.format.Bodies.{cut, residual_of}
use Rattle.flac_subframe.specs.format.Cost.{MayCode, MayCodeEach, MayWrite, Codings}
use Rattle.flac_subframe.specs.format.Residual.{all_values, residual_values}
use Rattle.flac_subframe.specs.format.Spelling.{IsCoded, ArePartitions, MayLeave}
use Rattle.flac_subframe.proofs.lemmas.format.Methods.{method_bits}

module _ (w size : ℕ) where
  length-cut : (first : ℕ) (rs : List ℤ) (cs : List Coding) → length (cut first size rs cs) ≡ length cs
  unfolding cut
  length-cut first rs [] = refl
  length-cut first rs (c ∷ cs) = ap suc (length-cut size (drop first rs) cs)

  one_coded : (first : ℕ) (rs : List ℤ) (c : Coding) → first ≤ length rs → MayCode w (take first rs) c → All IsResidual rs → IsCoded w first c (take first rs)
  one_coded first rs (Rice k) within may range = (may, length-take-le first rs within, All-take IsResidual first rs range)
  one_coded first rs (Escape n) within may range = (may.0, length-take-le first rs within, may.1)

  cut_are : (first : ℕ) (rs : List ℤ) (cs : List Coding) → MayCodeEach w first size rs cs → All IsResidual rs → (0 < length cs → length rs + size ≡ first + length cs * size) → ArePartitions w first size (cut first size rs cs)
  unfolding cut
  cut_are first rs [] may range cuts = tt
  cut_are first rs (c ∷ cs) may range cuts =
      let here : length rs ≡ first + length cs * size = omega (arith, cuts (omega arith), suc-mul (length cs) size) in
      (one_coded first rs c (omega (arith, here)) may.0 range, cut_are size (drop first rs) cs may.1 (All-drop IsResidual first rs range) (λ some. omega (arith, here, length-drop first rs)))

  cut_values : (first : ℕ) (rs : List ℤ) (cs : List Coding) → 0 < length cs → length rs + size ≡ first + length cs * size → all_values (cut first size rs cs) ≡ rs
  unfolding cut
  cut_values first rs [] some cuts = absurd (omega (arith, some))
  cut_values first rs (c ∷ []) some cuts = append-nil (take first rs) ∙ take_all first rs (omega (arith, cuts))
  cut_values first rs (c ∷ (e ∷ cs)) some cuts =
      let here : length rs ≡ first + length (e ∷ cs) * size = omega (arith, cuts, suc-mul (length (e ∷ cs)) size) in
      ap (λ (l : List ℤ). take first rs ++ l) (cut_values size (drop first rs) (e ∷ cs) (omega arith) (omega (arith, here, length-drop first rs))) ∙ take-append-drop first rs

method_small : (w : ℕ) → (w ≡ 4) ⊎ (w ≡ 5) → w - 4 < 2
method_small w (inl e) = omega (arith, e)
method_small w (inr e) = omega (arith, e)

both : (a b : Bool) → a ≡ true → b ≡ true → a && b ≡ true
both a b p q = rw (p, q) refl

module _ (most order : ℕ) (rs : List ℤ) (f : Codings) (may : MayWrite most order rs f) where
  -- the partitions make the residual up
  pub cuts : length rs + (length rs + order) / 2 ^ f.partition_order ≡ ((length rs + order) / 2 ^ f.partition_order - order) + length f.codings * ((length rs + order) / 2 ^ f.partition_order)
  cuts =
      let size : ℕ = (length rs + order) / 2 ^ f.partition_order in
      let some = pow_pos f.partition_order in
      let many : length f.codings * size ≡ 2 ^ f.partition_order * size = ap (λ (n : ℕ). n * size) may.each in
      omega (arith, many, may.even, may.room, some)

  -- a residual that may be written is one that a predictor may leave
  pub may_leave : (limit : ℕ) → most ≤ limit → most ≤ 15 → All IsResidual rs → MayLeave limit order (length rs + order) (residual_of order rs f)
  may_leave limit le few range =
      let size : ℕ = (length rs + order) / 2 ^ f.partition_order in
      record {
        method = method_small f.parameter_bits may.method;
        field = omega (arith, may.few);
        allowed = omega (arith, may.few);
        halves = both _ _ (eq-eqb _ 0 may.even) (lt-ltb order _ may.room);
        many = length-cut f.parameter_bits size (size - order) rs f.codings ∙ may.each;
        each = rw (method_bits f.parameter_bits may.method) (cut_are f.parameter_bits size (size - order) rs f.codings may.codings range (λ some. cuts));
      }

  -- its values are the residual
  pub values_are : residual_values (residual_of order rs f) ≡ rs
  values_are = cut_values f.parameter_bits ((length rs + order) / 2 ^ f.partition_order) ((length rs + order) / 2 ^ f.partition_order - order) rs f.codings (omega (arith, may.each, pow_pos f.partition_order)) cuts
