-- Ties of values under a Rice code, and of partitions.
use Rattle.std.proofs.Common.{◌≡◌, ◌∙◌, ℕ, zero, suc, ◌+◌, ◌-◌, ◌*◌, ◌/◌, ◌%◌, ◌^◌, ◌≤◌, refl, sym, ap, arith, Bool, true, false, ℤ, pos, negsuc, List, [], ◌∷◌, ◌++◌, length, flat_map, Option, Some, None, nat_lt, nat_eq, inl, inr, eq-eqb}
use Rattle.std.proofs.lemmas.Int.{ints}
use Rattle.std.proofs.lemmas.Bool.{cases_eq, le-ltb, ltb-false, eqb-true, eqb-false}
use Rattle.std.proofs.lemmas.Nat.{div-mul-add, pow_pos, le-div, shr_split}
use Rattle.std.proofs.Math.Nat.{mod-eq_of_lt, mod-lt, mul-add-mod_self_right}
use Rattle.std.proofs.lemmas.List.{append-nil}
use Rattle.flac_bits.specs.Bits.{unsigned}
use Rattle.flac_bits.specs.State.{Mark, past}
use Rattle.flac_bits.specs.Layout.{done, bits, bind}
use Rattle.flac_bits.specs.Lists.{list_of}
use Rattle.flac_bits.specs.Forms.{joined}
use Rattle.flac_bits.specs.inner.Forms.{Ties}
use Rattle.flac_bits.specs.Meaning.{unary_bits, zeros_bits, IsWithin}
use Rattle.flac_bits.specs.Rice.{rice, rice_value, unfolded, within, IsResidual, folded}
use Rattle.flac_bits.specs.Signed.{signed, signed_field}
use Rattle.flac_bits.proofs.Ties.{ForEach, ForSome, tie, each_tied, some_tied, choose_each, choose_true, choose_false}
use Rattle.flac_subframe.specs.declared.format.coding.Coding.{Coding}
use Rattle.flac_subframe.specs.declared.format.coding.Coding.TheVariants.{Rice, Escape}
use Rattle.flac_subframe.specs.format.Residual.{Partition, partition, partitions, escaped, coded}
use Rattle.flac_subframe.specs.format.Spelling.{value_spelling, coding_spelling, partition_spelling, FitsWidth, IsCoded, ArePartitions}
use Rattle.flac_subframe.proofs.lemmas.format.FieldTies.{signed_tie, list_tie, Many}

pub unfolded-folded : (z : ℤ) → unfolded (folded z) ≡ z
unfolded-folded (pos a) = let e : 2 * a % 2 ≡ 0 = omega arith in let h : 2 * a / 2 ≡ a = omega arith in rw (e, h) refl
unfolded-folded (negsuc a) = let e : (2 * a + 1) % 2 ≡ 1 = omega arith in let h : (2 * a + 1) / 2 ≡ a = omega arith in rw (e, h) refl

pub folded-unfolded : (n : ℕ) → folded (unfolded n) ≡ n
folded-unfolded n = elim (cases_eq (n % 2) 0) [
  | inl e ↦ rw e (omega arith)
  | inr e ↦ let one : n % 2 ≡ 1 = omega arith in rw one (omega arith)
]

pub in_range : (z : ℤ) → folded z ≤ 4294967294 → IsResidual z
in_range (pos a) h = record { low = omega (arith, ints); high = omega (arith, ints) }
in_range (negsuc a) h = record { low = omega (arith, ints); high = omega (arith, ints) }

pub folded_small : (z : ℤ) → IsResidual z → folded z ≤ 4294967294
folded_small (pos a) r = omega (arith, ints, r.high)
folded_small (negsuc a) r = omega (arith, ints, r.low)

abbrev parts_of : ℕ → ℕ → List Bool
parts_of k f = joined (unary_bits (f / 2 ^ k) ∷ unsigned k (f % 2 ^ k) ∷ [])

module _ (k limit : ℕ) (m : Mark) where
  each_code : (o : Option ℕ) → IsWithin limit o → ForEach (bind (within o) (λ q. bind (bits k) (λ low. done (q * 2 ^ k + low)))) (past (zeros_bits limit o) m)
      (λ rest f. (f / 2 ^ k ≤ limit) × (zeros_bits limit o ++ rest ≡ parts_of k f))
  each_code None w = tt
  each_code (Some q) w = λ low lt.
      let d : (q * 2 ^ k + low) / 2 ^ k ≡ q = div-mul-add q (2 ^ k) low lt in
      let e : (q * 2 ^ k + low) % 2 ^ k ≡ low = mul-add-mod_self_right q (2 ^ k) low ∙ mod-eq_of_lt lt in
      (omega (arith, d, w), rw (d, e) refl)

  pub rice_tie : Ties (rice k limit) m (λ f. f / 2 ^ k ≤ limit) (parts_of k)
  unfolding rice
  rice_tie = tie (rice k limit) m (λ f. f / 2 ^ k ≤ limit) (parts_of k) each_code
      (λ f v. (Some (f / 2 ^ k), v, (f % 2 ^ k, mod-lt f (pow_pos k), (refl, omega (arith, pow_pos k)))))

pub rice_value_tie : (k : ℕ) (m : Mark) → Ties (rice_value k) m IsResidual (value_spelling k)
unfolding rice_value value_spelling
rice_value_tie k m =
    let limit : ℕ = 4294967294 / 2 ^ k in
    tie (rice_value k) m IsResidual (value_spelling k)
    (each_tied (rice k limit) m (λ f. f / 2 ^ k ≤ limit) (parts_of k) _ (rice_tie k limit m)
    (λ f ok. choose_each (nat_lt 4294967294 f) _ _ (past (parts_of k f) m) _ (λ e. tt)
    (λ e. (in_range (unfolded f) (omega (arith, folded-unfolded f, ltb-false 4294967294 f e)), append-nil (parts_of k f) ∙ ap (parts_of k) (sym (folded-unfolded f))))))
    (λ z ok. some_tied (rice k limit) m (λ f. f / 2 ^ k ≤ limit) (parts_of k) _ (folded z) (rice_tie k limit m) (le-div (folded z / 2 ^ k) 4294967294 (2 ^ k) (pow_pos k) (omega (arith, shr_split (folded z) k, folded_small z ok)))
    (choose_false (nat_lt 4294967294 (folded z)) _ _ (past (parts_of k (folded z)) m) _ (le-ltb 4294967294 (folded z) (folded_small z ok)) (append-nil (parts_of k (folded z)), unfolded-folded z)))

-- ---- partitions

pub eqb-ne : (a b : ℕ) → (a ≡ b → ⊥) → nat_eq a b ≡ false
eqb-ne a b h = cases_of (nat_eq a b) (λ e. h (eqb-true a b e))
  where
    cases_of : (t : Bool) → (t ≡ true → ⊥) → t ≡ false
    cases_of true f = absurd (f refl)
    cases_of false f = refl

abbrev IsPartition : ℕ → ℕ → Partition → Type 0
IsPartition w n p = IsCoded w n p.coding p.values

module _ (w n : ℕ) (m : Mark) where
  some_partition : (c : Coding) (vs : List ℤ) → IsCoded w n c vs → ForSome (partition w n) m (λ text y. (text ≡ coding_spelling w c vs) × (y ≡ record { coding = c; values = vs }))
  unfolding partition escaped coded coding_spelling
  some_partition (Rice k) vs ok = (
    k,
    omega (arith, ok.0),
    choose_false (nat_eq k (2 ^ w - 1)) _ _ _ _ (eqb-ne k (2 ^ w - 1) (λ e. absurd (omega (arith, ok.0, e))))
        (some_tied (list_of n (rice_value k)) _ (Many IsResidual n) (flat_map (value_spelling k)) _ vs (list_tie (rice_value k) IsResidual (value_spelling k) (rice_value_tie k) n _)
        (record { many = ok.1; each = ok.2 }) (refl, refl)),
  )
  some_partition (Escape width) vs ok = (
    2 ^ w - 1,
    omega (arith, pow_pos w),
    choose_true (nat_eq (2 ^ w - 1) (2 ^ w - 1)) _ _ _ _ (eq-eqb (2 ^ w - 1) (2 ^ w - 1) refl) (
      width,
      ok.0,
      some_tied (list_of n (signed_field width)) _ (Many (FitsWidth width) n) (flat_map (signed width)) _ vs
          (list_tie (signed_field width) (FitsWidth width) (signed width) (signed_tie width) n _) (record { many = ok.1; each = ok.2 }) (refl, refl),
    ),
  )

  pub partition_tie : Ties (partition w n) m (IsPartition w n) (partition_spelling w)
  unfolding partition escaped coded coding_spelling
  partition_tie = tie (partition w n) m (IsPartition w n) (partition_spelling w)
      (λ v lt. choose_each (nat_eq v (2 ^ w - 1)) _ _ (past (unsigned w v) m) _
      (λ e. λ width small. each_tied (list_of n (signed_field width)) _ (Many (FitsWidth width) n) (flat_map (signed width)) _
      (list_tie (signed_field width) (FitsWidth width) (signed width) (signed_tie width) n _) (λ vs ok. ((small, ok.many, ok.each), rw (eqb-true v (2 ^ w - 1) e) refl)))
      (λ e. each_tied (list_of n (rice_value v)) _ (Many IsResidual n) (flat_map (value_spelling v)) _ (list_tie (rice_value v) IsResidual (value_spelling v) (rice_value_tie v) n _)
      (λ vs ok. ((omega (arith, lt, eqb-false v (2 ^ w - 1) e), ok.many, ok.each), refl))))
      (λ p ok. some_partition p.coding p.values ok)

pub record Parts (w first size n : ℕ) (ps : List Partition) : Type 0 where
  pub many : length ps ≡ n
  pub each : ArePartitions w first size ps

module _ (w size : ℕ) where
  nothing : (first : ℕ) (ps : List Partition) → Parts w first size 0 ps → [] ≡ ps
  nothing first [] v = refl
  nothing first (x ∷ xs) v = absurd (omega (arith, v.many))

  pub partitions_tie : (n first : ℕ) (m : Mark) → Ties (partitions w first size n) m (Parts w first size n) (flat_map (partition_spelling w))
  unfolding partitions
  partitions_tie zero first m = tie (partitions w first size 0) m (Parts w first size 0) (flat_map (partition_spelling w)) (record { many = refl; each = tt }, refl)
      (λ ps v. (ap (flat_map (partition_spelling w)) (nothing first ps v), nothing first ps v))
  partitions_tie (suc n) first m = tie (partitions w first size (suc n)) m (Parts w first size (suc n)) (flat_map (partition_spelling w))
      (each_tied (partition w first) m (IsPartition w first) (partition_spelling w) _ (partition_tie w first m)
      (λ p ok. each_tied (partitions w size size n) (past (partition_spelling w p) m) (Parts w size size n) (flat_map (partition_spelling w)) _ (partitions_tie n size (past (partition_spelling w p) m))
      (λ ps v. (record { many = omega (arith, v.many); each = (ok, v.each) }, ap (λ t. partition_spelling w p ++ t) (append-nil (flat_map (partition_spelling w) ps))))))
      (go (λ k. partitions_tie n size k))
    where
      go : ((k : Mark) → Ties (partitions w size size n) k (Parts w size size n) (flat_map (partition_spelling w))) → (qs : List Partition) → Parts w first size (suc n) qs
          → ForSome (partitions w first size (suc n)) m (λ text zs. (text ≡ flat_map (partition_spelling w) qs) × (zs ≡ qs))
      go t [] v = absurd (omega (arith, v.many))
      go t (q ∷ qs) v = some_tied (partition w first) m (IsPartition w first) (partition_spelling w) _ q (partition_tie w first m) v.each.0
          (some_tied (partitions w size size n) (past (partition_spelling w q) m) (Parts w size size n) (flat_map (partition_spelling w)) _ qs (t (past (partition_spelling w q) m))
          (record { many = omega (arith, v.many); each = v.each.1 }) (ap (λ t. partition_spelling w q ++ t) (append-nil (flat_map (partition_spelling w) qs)), refl))
