-- The tie of a subframe.
use Rattle.std.proofs.Common.{◌≡◌, ℕ, ◌+◌, ◌-◌, ◌/◌, ◌^◌, ◌≤◌, ◌<◌, refl, arith, Bool, true, List, [], ◌∷◌, length, flat_map, nat_lt, nat_eq}
use Rattle.std.proofs.lemmas.Bool.{lt-ltb, le-ltb, ltb-false, eqb-false, not-false, not_from_true}
use Rattle.std.proofs.lemmas.List.{append-nil}
use Rattle.flac_bits.specs.Bits.{unsigned}
use Rattle.flac_bits.specs.State.{Mark}
use Rattle.flac_bits.specs.Lists.{list_of}
use Rattle.flac_bits.specs.Forms.{joined}
use Rattle.flac_bits.specs.inner.Forms.{Ties}
use Rattle.flac_bits.specs.Signed.{signed, signed_field}
use Rattle.flac_bits.proofs.Ties.{ForEach, ForSome, tie, each_tied, some_tied, choose_true, choose_false}
use Rattle.flac_subframe.specs.declared.format.limits.Limits.{Limits}
use Rattle.flac_subframe.specs.format.Residual.{residual_header, residual, partitions, can_halve}
use Rattle.flac_subframe.specs.format.Subframe.{Content, Constant, Verbatim, Fixed, Linear, Predictor, predictor_order, predictor, constant, verbatim, fixed, linear, content}
use Rattle.flac_subframe.specs.format.Spelling.{partition_spelling, residual_spelling, predictor_spelling, content_spelling, type_of, FitsWidth, MayLeave, MayPredict, MayHold}
use Rattle.flac_subframe.proofs.lemmas.format.FieldTies.{signed_tie, list_tie, Many}
use Rattle.flac_subframe.proofs.lemmas.format.RiceTies.{Parts, partitions_tie, eqb-ne}

-- ---- the residual

abbrev IsHeaderOf : ℕ → ℕ → ℕ → ℕ × ℕ → Type 0
IsHeaderOf limit order block h = (h.0 < 2) × (h.1 < 2 ^ 4) × (h.1 ≤ limit) × (can_halve block h.1 order ≡ true)

abbrev method_spelling : ℕ × ℕ → List Bool
method_spelling h = joined (unsigned 2 h.0 ∷ unsigned 4 h.1 ∷ [])

module _ (limit order block : ℕ) (m : Mark) where
  method_tie : Ties (residual_header limit order block) m (IsHeaderOf limit order block) method_spelling
  unfolding residual_header
  method_tie = tie (residual_header limit order block) m (IsHeaderOf limit order block) method_spelling
      (λ method small kept partition_order field allowed. ((omega (arith, ltb-false 1 method kept.0), field, ltb-false limit partition_order allowed.0, not-false (can_halve block partition_order order) allowed.1.0), refl))
      (λ h v. (h.0, omega (arith, v.0), ((le-ltb 1 h.0 (omega (arith, v.0)), tt), (h.1, v.1, ((le-ltb limit h.1 v.2, (not_from_true (can_halve block h.1 order) v.3, tt)), (refl, refl))))))

  pub residual_tie : Ties (residual limit order block) m (MayLeave limit order block) residual_spelling
  unfolding residual residual_spelling
  residual_tie = tie (residual limit order block) m (MayLeave limit order block) residual_spelling
      (each_tied (residual_header limit order block) m (IsHeaderOf limit order block) method_spelling _ method_tie
      (λ h ok. each_tied (partitions (4 + h.0) (block / 2 ^ h.1 - order) (block / 2 ^ h.1) (2 ^ h.1)) _ (Parts (4 + h.0) (block / 2 ^ h.1 - order) (block / 2 ^ h.1) (2 ^ h.1)) (flat_map (partition_spelling (4 + h.0))) _
      (partitions_tie (4 + h.0) (block / 2 ^ h.1) (2 ^ h.1) (block / 2 ^ h.1 - order) _)
      (λ ps v. (record { method = ok.0; field = ok.1; allowed = ok.2; halves = ok.3; many = v.many; each = v.each }, refl))))
      (λ r v. some_tied (residual_header limit order block) m (IsHeaderOf limit order block) method_spelling _ (r.method, r.order) method_tie (v.method, v.field, v.allowed, v.halves)
      (some_tied (partitions (4 + r.method) (block / 2 ^ r.order - order) (block / 2 ^ r.order) (2 ^ r.order)) _ (Parts (4 + r.method) (block / 2 ^ r.order - order) (block / 2 ^ r.order) (2 ^ r.order)) (flat_map (partition_spelling (4 + r.method))) _ r.partitions
      (partitions_tie (4 + r.method) (block / 2 ^ r.order) (2 ^ r.order) (block / 2 ^ r.order - order) _) (record { many = v.many; each = v.each }) (refl, refl)))

-- ---- the linear predictor

some_predictor : (order : ℕ) (m : Mark) (low : ℕ) (p : Predictor) → low + 1 ≡ p.precision → MayPredict order p → ForSome (predictor order) m (λ text y. (text ≡ predictor_spelling p) × (y ≡ p))
unfolding predictor predictor_spelling
some_predictor order m low p is v =
    let before : p.precision - 1 ≡ low = omega (arith, is) in (
      low,
      omega (arith, is, v.few),
      (
        (eqb-ne low 15 (λ e. absurd (omega (arith, is, v.few, e))), tt),
        (
          p.shift,
          omega (arith, v.shift),
          (
            (le-ltb 15 p.shift v.shift, tt),
            rw is (some_tied (list_of order (signed_field p.precision)) _ (Many (FitsWidth p.precision) order) (flat_map (signed p.precision)) _ p.coefficients
                (list_tie (signed_field p.precision) (FitsWidth p.precision) (signed p.precision) (signed_tie p.precision) order _) (record { many = v.many; each = v.fit }) (rw before refl, refl)),
          ),
        ),
      ),
    )

pub predictor_tie : (order : ℕ) (m : Mark) → Ties (predictor order) m (MayPredict order) predictor_spelling
unfolding predictor predictor_spelling
predictor_tie order m = tie (predictor order) m (MayPredict order) predictor_spelling
    (λ low small kept shift field allowed. each_tied (list_of order (signed_field (low + 1))) _ (Many (FitsWidth (low + 1)) order) (flat_map (signed (low + 1))) _
    (list_tie (signed_field (low + 1)) (FitsWidth (low + 1)) (signed (low + 1)) (signed_tie (low + 1)) order _)
    (λ cs v. let e : low + 1 - 1 ≡ low = omega arith in
    (record { some = omega arith; few = omega (arith, small, eqb-false low 15 kept.0); shift = ltb-false 15 shift allowed.0; many = v.many; fit = v.each }, rw e refl)))
    (λ p v. some_predictor order m (p.precision - 1) p (omega (arith, v.some)) v)

-- ---- the contents

module _ (depth block : ℕ) (limits : Limits) (m : Mark) where
  warm_tie : (n : ℕ) (k : Mark) → Ties (list_of n (signed_field depth)) k (Many (FitsWidth depth) n) (flat_map (signed depth))
  warm_tie n k = list_tie (signed_field depth) (FitsWidth depth) (signed depth) (signed_tie depth) n k

  -- a content of a type
  abbrev pub Holds : ℕ → Content → Type 0
  Holds kind c = (type_of c ≡ kind) × MayHold depth block limits c

  pub each_constant : ForEach (constant depth) m (λ text c. Holds 0 c × (text ≡ content_spelling depth c))
  unfolding constant content_spelling
  each_constant = each_tied (signed_field depth) m (FitsWidth depth) (signed depth) _ (signed_tie depth m) (λ z ok. ((refl, ok), append-nil (signed depth z)))

  pub each_verbatim : ForEach (verbatim depth block) m (λ text c. Holds 1 c × (text ≡ content_spelling depth c))
  unfolding verbatim content_spelling
  each_verbatim = each_tied (list_of block (signed_field depth)) m (Many (FitsWidth depth) block) (flat_map (signed depth)) _ (warm_tie block m)
      (λ zs ok. ((refl, record { many = ok.many; fit = ok.each }), append-nil (flat_map (signed depth) zs)))

  pub each_fixed : (order kind : ℕ) → kind ≡ 8 + order → order ≤ 4 → order < block → ForEach (fixed depth block limits.partition order) m (λ text c. Holds kind c × (text ≡ content_spelling depth c))
  unfolding fixed content_spelling
  each_fixed order kind is few room = each_tied (list_of order (signed_field depth)) m (Many (FitsWidth depth) order) (flat_map (signed depth)) _ (warm_tie order m)
      (λ ws ok. each_tied (residual limits.partition order block) _ (MayLeave limits.partition order block) residual_spelling _ (residual_tie limits.partition order block _)
      (λ r v. let e = ok.many in
      ((omega (arith, is, e), (omega (arith, e, few), omega (arith, e, room), record { many = refl; fit = ok.each }, rw e v)), refl)))

  pub each_linear : (order kind : ℕ) → kind ≡ 31 + order → 1 ≤ order → order ≤ limits.linear → order < block → ForEach (linear depth block limits.partition order) m (λ text c. Holds kind c × (text ≡ content_spelling depth c))
  unfolding linear content_spelling
  each_linear order kind is some few room = each_tied (list_of order (signed_field depth)) m (Many (FitsWidth depth) order) (flat_map (signed depth)) _ (warm_tie order m)
      (λ ws ok. each_tied (predictor order) _ (MayPredict order) predictor_spelling _ (predictor_tie order _)
      (λ p w. each_tied (residual limits.partition order block) _ (MayLeave limits.partition order block) residual_spelling _ (residual_tie limits.partition order block _)
      (λ r v. let e = ok.many in
      ((omega (arith, is, e), (omega (arith, e, some), omega (arith, e, few), omega (arith, e, room), record { many = refl; fit = ok.each }, rw e w, rw e v)), refl))))

  pub some_content : (c : Content) → MayHold depth block limits c → ForSome (content (type_of c) depth block limits.partition) m (λ text y. (text ≡ content_spelling depth c) × (y ≡ c))
  unfolding content constant verbatim fixed linear content_spelling
  some_content (Constant z) v = some_tied (signed_field depth) m (FitsWidth depth) (signed depth) _ z (signed_tie depth m) v (append-nil (signed depth z), refl)
  some_content (Verbatim zs) v = some_tied (list_of block (signed_field depth)) m (Many (FitsWidth depth) block) (flat_map (signed depth)) _ zs (warm_tie block m) (record { many = v.many; each = v.fit }) (append-nil (flat_map (signed depth) zs), refl)
  some_content (Fixed ws r) v =
      let n = length ws in
      let kind : ℕ = 8 + n in
      let e : predictor_order kind ≡ n = rw (lt-ltb kind 32 (omega (arith, v.0))) (omega arith) in
      choose_false (nat_eq kind 0) _ _ m _ (eqb-ne kind 0 (λ h. absurd (omega (arith, h))))
      (choose_false (nat_eq kind 1) _ _ m _ (eqb-ne kind 1 (λ h. absurd (omega (arith, h))))
      (choose_true (nat_lt kind 32) _ _ m _ (lt-ltb kind 32 (omega (arith, v.0)))
      (rw e (some_tied (list_of n (signed_field depth)) m (Many (FitsWidth depth) n) (flat_map (signed depth)) _ ws (warm_tie n m) (record { many = refl; each = v.2.fit })
      (some_tied (residual limits.partition n block) _ (MayLeave limits.partition n block) residual_spelling _ r (residual_tie limits.partition n block _) v.3 (refl, refl))))))
  some_content (Linear ws p r) v =
      let n = length ws in
      let kind : ℕ = 31 + n in
      let over = le-ltb kind 32 (omega (arith, v.0)) in
      let e : predictor_order kind ≡ n = rw over (omega arith) in
      choose_false (nat_eq kind 0) _ _ m _ (eqb-ne kind 0 (λ h. absurd (omega (arith, h))))
      (choose_false (nat_eq kind 1) _ _ m _ (eqb-ne kind 1 (λ h. absurd (omega (arith, h))))
      (choose_false (nat_lt kind 32) _ _ m _ over
      (rw e (some_tied (list_of n (signed_field depth)) m (Many (FitsWidth depth) n) (flat_map (signed depth)) _ ws (warm_tie n m) (record { many = refl; each = v.3.fit })
      (some_tied (predictor n) _ (MayPredict n) predictor_spelling _ p (predictor_tie n _) v.4
      (some_tied (residual limits.partition n block) _ (MayLeave limits.partition n block) residual_spelling _ r (residual_tie limits.partition n block _) v.5 (refl, refl)))))))
