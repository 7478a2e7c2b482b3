-- Sums of products that are made for all samples at once.
use mir.Syntax.{Width}
use mir.Val.{hbits}
use Rattle.std.proofs.Common.{◌≡◌, ◌∙◌, inl, inr, refl, to_z, of_z, w32, FitsSigned, sym, ap, ℕ, zero, suc, ◌+◌, ◌-◌, ◌*◌, ◌^◌, ◌≤◌, ◌<◌, arith, ℤ, pos, ◌+ℤ◌, ◌-ℤ◌, ◌*ℤ◌, negsuc, List, map, get_or, All, [], ◌∷◌, length, take, slice_set}
use Rattle.std.specs.Int.{int_shr}
use Rattle.std.specs.Int.RustNames.{unsigned_abs}
use Rattle.std.specs.List.{sum_by, range_with_len}
use Rattle.std.proofs.Math.IntN.{+ℤ_assoc, +ℤ_comm}
use Rattle.std.proofs.lemmas.Int.{ints, to_z-of_z, fits_signed_from_abs}
use Rattle.std.proofs.lemmas.Bool.{cases_lt}
use Rattle.std.proofs.lemmas.List.{get_or-set_same, get_or-set_other, length-set, take_all, ext_get_or, get_or-map, length-map}
use Rattle.std.proofs.lemmas.List.Elements.{All-from_get_or}
use Rattle.std.proofs.lemmas.List.Sums.{sum_by-cons, sum_by-take-le}
use Rattle.std.proofs.lemmas.Nat.{mul-le, shr_le}
use Rattle.std.proofs.lemmas.List.FromFn.{get_or-map-range_with_len, length-map-range_with_len}
use Rattle.flac_bits.specs.Rice.{IsResidual, folded}
use Rattle.flac_subframe.specs.format.Bodies.{difference, differences}
use Rattle.flac_subframe.specs.format.Numbers.{sample_at}
use Rattle.flac_subframe.specs.format.Prediction.{weighted}
use Rattle.flac_subframe.specs.format.inner.Products.{HasSums, StayBelow}
use Rattle.std.proofs.Math.ListN.{get_or-eq_default}
use Rattle.flac_bits.specs.Signed.{FitsBits}
use Rattle.flac_subframe.proofs.lemmas.format.Bounds.{abs_product, abs_from_bits_15}
use Rattle.flac_subframe.proofs.lemmas.format.Sizes.{sum_abs, one_below, back_in}

one_more : (a m : ℕ) → (1 + a) * m ≡ m + a * m
one_more a m = omega arith

right-distrib : (a b m : ℕ) → (a + b) * m ≡ a * m + b * m
right-distrib a b m = omega arith

-- one product more
pub product_next : (cs s : List ℤ) (k at : ℕ) → k < length cs → weighted (take k cs) s at +ℤ (sample_at cs k *ℤ sample_at s (at - 1 - k)) ≡ weighted (take (k + 1) cs) s at
unfolding weighted
product_next [] s k at h = absurd (omega (arith, h))
product_next (c ∷ cs) s zero at h = let e : at - 1 - 0 ≡ at - 1 = omega arith in rw e (+ℤ_comm (pos 0) (c *ℤ sample_at s (at - 1)))
product_next (c ∷ cs) s (suc k) at h =
    let e : at - 1 - suc k ≡ at - 1 - 1 - k = omega arith in
    let g : suc k + 1 ≡ suc (k + 1) = omega arith in
    rw (g, e) (+ℤ_assoc (c *ℤ sample_at s (at - 1)) (weighted (take k cs) s (at - 1)) (sample_at cs k *ℤ sample_at s (at - 1 - 1 - k)) ∙ ap (λ (z : ℤ). (c *ℤ sample_at s (at - 1)) +ℤ z) (product_next cs s k (at - 1) (omega (arith, h))))

-- the first i sums are of m products, and the others of k
pub record SumsTo (k m : ℕ) (cs s : List ℤ) (i : ℕ) (sums : List ℤ) : Type 0 where
  pub done : (j : ℕ) → j < i → j < length sums → sample_at sums j ≡ weighted (take m cs) s (length cs + j)
  pub left : (j : ℕ) → i ≤ j → j < length sums → sample_at sums j ≡ weighted (take k cs) s (length cs + j)

module _ (k m : ℕ) (cs s sums : List ℤ) where
  pub sums_start : HasSums k cs s sums → SumsTo k m cs s 0 sums
  sums_start so = record { done = λ j h l. absurd (omega (arith, h)); left = λ j h l. so j l }

  pub sums_more : (i : ℕ) (v : ℤ) → i < length sums → v ≡ weighted (take m cs) s (length cs + i) → SumsTo k m cs s i sums → SumsTo k m cs s (i + 1) (slice_set sums i v)
  sums_more i v within is so = record {
    done = λ j h l. elim (cases_lt j i) [
      | inl d ↦ get_or-set_other sums i j v (pos 0) (λ e. omega arith) ∙ so.done j d (omega arith)
      | inr d ↦ let e : j ≡ i = omega arith in rw e (get_or-set_same sums i v (pos 0) within ∙ is)
    ];
    left = λ j h l. get_or-set_other sums i j v (pos 0) (λ e. omega arith) ∙ so.left j (omega arith) (omega (arith, l, length-set sums i v));
  }

  pub sums_end : (i : ℕ) → length sums ≤ i → SumsTo k m cs s i sums → HasSums m cs s sums
  sums_end i over so = λ j l. so.done j (omega arith) l

-- one step of the code, with sums of a width
module _ (w : Width) (cs s : List ℤ) (small : StayBelow (2 ^ hbits w) cs s) (k m b at : ℕ) (next : m ≡ k + 1) (before : b ≡ at - 1 - k) (within : k < length cs) where
  term_below : unsigned_abs (sample_at cs k *ℤ sample_at s b) < 2 ^ hbits w
  term_below = small.products k b

  sum_below : (m i : ℕ) → unsigned_abs (weighted (take m cs) s i) < 2 ^ hbits w
  sum_below m i = omega (arith, small.sums m i 0)

  code_next : weighted (take k cs) s at +ℤ (sample_at cs k *ℤ sample_at s b) ≡ weighted (take m cs) s at
  code_next = rw (next, before) (product_next cs s k at within)

  next_below : unsigned_abs (weighted (take k cs) s at +ℤ (sample_at cs k *ℤ sample_at s b)) < 2 ^ hbits w
  next_below = rw code_next (sum_below m at)

  -- a sum and the next product, as the code has them
  module _ (raw : ℤ) (fit : FitsSigned w32 (sample_at cs k)) (fit_sample : FitsSigned w32 (sample_at s b)) (is : raw ≡ weighted (take k cs) s at) where
    sum_same : to_z w (of_z w raw) ≡ weighted (take k cs) s at
    sum_same = rw is (back_in w (weighted (take k cs) s at) (sum_below k at))

    factor_same : to_z w32 (of_z w32 (sample_at cs k)) ≡ sample_at cs k
    factor_same = to_z-of_z w32 (sample_at cs k) fit

    sample_same : to_z w32 (of_z w32 (sample_at s b)) ≡ sample_at s b
    sample_same = to_z-of_z w32 (sample_at s b) fit_sample

    pub code_product_below : unsigned_abs (to_z w32 (of_z w32 (sample_at cs k)) *ℤ to_z w32 (of_z w32 (sample_at s b))) < 2 ^ hbits w
    code_product_below = rw (factor_same, sample_same) term_below

    pub code_sum_below : unsigned_abs (to_z w (of_z w raw) +ℤ (to_z w32 (of_z w32 (sample_at cs k)) *ℤ to_z w32 (of_z w32 (sample_at s b)))) < 2 ^ hbits w
    code_sum_below = rw (sum_same, factor_same, sample_same) next_below

    pub next_is : (r : ℤ) → r ≡ to_z w (of_z w raw) +ℤ (to_z w32 (of_z w32 (sample_at cs k)) *ℤ to_z w32 (of_z w32 (sample_at s b))) → r ≡ weighted (take m cs) s at
    next_is r e = (rw (sum_same, factor_same, sample_same) at e) ∙ code_next

    -- the same in its place
    pub next_held : (r : ℤ) → r ≡ to_z w (of_z w raw) +ℤ (to_z w32 (of_z w32 (sample_at cs k)) *ℤ to_z w32 (of_z w32 (sample_at s b))) → to_z w (of_z w r) ≡ weighted (take m cs) s at
    next_held r e = rw (next_is r e) (back_in w (weighted (take m cs) s at) (sum_below m at))

-- ---- what is left of a sample and its sum

shr_small : (z : ℤ) (k : ℕ) → unsigned_abs (int_shr z k) ≤ unsigned_abs z
shr_small (pos a) k = omega (arith, shr_le a k)
shr_small (negsuc a) k = omega (arith, shr_le a k)

module _ (w : Width) (x y : ℤ) (shift : ℕ) (small : unsigned_abs x + unsigned_abs y < 2 ^ hbits w) where
  sum_back : to_z w (of_z w (int_shr (to_z w (of_z w y)) shift)) ≡ int_shr y shift
  sum_back = rw (back_in w y (omega (arith, small))) (back_in w (int_shr y shift) (omega (arith, small, shr_small y shift)))

  less : unsigned_abs (x -ℤ int_shr y shift) < 2 ^ hbits w
  less = let h : unsigned_abs (int_shr y shift) ≤ unsigned_abs y = shr_small y shift in omega (arith, ints, small, h)

  pub left_is : to_z w (of_z w (to_z w (of_z w x) -ℤ to_z w (of_z w (int_shr (to_z w (of_z w y)) shift)))) ≡ x -ℤ int_shr y shift
  left_is = rw (sum_back, back_in w x (omega (arith, small))) (back_in w (x -ℤ int_shr y shift) less)

  pub left_fits : FitsSigned w (to_z w (of_z w x) -ℤ to_z w (of_z w (int_shr (to_z w (of_z w y)) shift)))
  left_fits = rw (sum_back, back_in w x (omega (arith, small))) (fits_signed_from_abs w (x -ℤ int_shr y shift) less)

pub left_range : (x y : ℤ) (shift : ℕ) → unsigned_abs x + unsigned_abs y < 2 ^ 31 → IsResidual (to_z w32 (of_z w32 (to_z w32 (of_z w32 x) -ℤ to_z w32 (of_z w32 (int_shr (to_z w32 (of_z w32 y)) shift)))))
left_range x y shift small =
    let h : unsigned_abs (int_shr y shift) ≤ unsigned_abs y = shr_small y shift in
    rw (left_is w32 x y shift small) (record { low = omega (arith, ints, small, h); high = omega (arith, ints, small, h) })

-- the first i places have what is left, and the others the sums
pub record LeftTo (order shift : ℕ) (s sums : List ℤ) (i : ℕ) (values : List ℤ) (folds : List ℕ) : Type 0 where
  pub done : (j : ℕ) → j < i → j < length values → sample_at values j ≡ sample_at s (order + j) -ℤ int_shr (sample_at sums j) shift
  pub left : (j : ℕ) → i ≤ j → j < length values → sample_at values j ≡ sample_at sums j
  pub range : (j : ℕ) → j < i → j < length values → IsResidual (sample_at values j)
  pub numbers : (j : ℕ) → j < i → j < length values → get_or folds j 0 ≡ folded (sample_at values j)

module _ (order shift : ℕ) (s sums values : List ℤ) (folds : List ℕ) (long : length folds ≡ length values) where
  pub left_start : sums ≡ values → LeftTo order shift s sums 0 values folds
  left_start e = record { done = λ j h l. absurd (omega (arith, h)); left = λ j h l. rw e refl; range = λ j h l. absurd (omega (arith, h)); numbers = λ j h l. absurd (omega (arith, h)) }

  pub left_more : (i n : ℕ) (v : ℤ) → i < length values → v ≡ sample_at s (order + i) -ℤ int_shr (sample_at sums i) shift → IsResidual v → n ≡ folded v
      → LeftTo order shift s sums i values folds → LeftTo order shift s sums (i + 1) (slice_set values i v) (slice_set folds i n)
  left_more i n v within is range fold so = record {
    done = λ j h l. elim (cases_lt j i) [
      | inl d ↦ get_or-set_other values i j v (pos 0) (λ e. omega arith) ∙ so.done j d (omega arith)
      | inr d ↦ let e : j ≡ i = omega arith in rw e (get_or-set_same values i v (pos 0) within ∙ is)
    ];
    left = λ j h l. get_or-set_other values i j v (pos 0) (λ e. omega arith) ∙ so.left j (omega arith) (omega (arith, l, length-set values i v));
    range = λ j h l. elim (cases_lt j i) [
      | inl d ↦ rw (get_or-set_other values i j v (pos 0) (λ e. omega arith)) (so.range j d (omega arith))
      | inr d ↦ let e : j ≡ i = omega arith in rw (e, get_or-set_same values i v (pos 0) within) range
    ];
    numbers = λ j h l. elim (cases_lt j i) [
      | inl d ↦ rw (get_or-set_other values i j v (pos 0) (λ e. omega arith), get_or-set_other folds i j n 0 (λ e. omega arith)) (so.numbers j d (omega arith))
      | inr d ↦ let e : j ≡ i = omega arith in rw (e, get_or-set_same values i v (pos 0) within, get_or-set_same folds i n 0 (omega arith)) fold
    ];
  }

  module _ (i : ℕ) (over : length values ≤ i) (so : LeftTo order shift s sums i values folds) where
    pub left_values : (j : ℕ) → j < length values → sample_at values j ≡ sample_at s (order + j) -ℤ int_shr (sample_at sums j) shift
    left_values j l = so.done j (omega arith) l

    pub left_residual : All IsResidual values
    left_residual = All-from_get_or IsResidual values (pos 0) (λ j l. so.range j (omega arith) l)

    pub left_folds : folds ≡ map folded values
    left_folds = ext_get_or 0 folds (map folded values) (long ∙ sym (length-map values folded)) (λ j l. so.numbers j (omega arith) (omega arith) ∙ sym (get_or-map folded values j (pos 0) 0 (omega arith)))

-- ---- the sums are small where the coefficients and the samples are

module _ (s : List ℤ) (m : ℕ) (most : (i : ℕ) → unsigned_abs (sample_at s i) ≤ m) where
  pub weighted_below : (cs : List ℤ) (at : ℕ) → unsigned_abs (weighted cs s at) ≤ sum_by unsigned_abs cs * m
  unfolding weighted
  weighted_below [] at = omega arith
  weighted_below (c ∷ cs) at =
      let one : unsigned_abs (c *ℤ sample_at s (at - 1)) ≤ unsigned_abs c * m = abs_product c (sample_at s (at - 1)) (unsigned_abs c) m (omega arith) (most (at - 1)) in
      let rest : unsigned_abs (weighted cs s (at - 1)) ≤ sum_by unsigned_abs cs * m = weighted_below cs (at - 1) in
      let both : unsigned_abs ((c *ℤ sample_at s (at - 1)) +ℤ weighted cs s (at - 1)) ≤ unsigned_abs c * m + sum_by unsigned_abs cs * m = sum_abs (c *ℤ sample_at s (at - 1)) (weighted cs s (at - 1)) _ _ one rest in
      rw (sum_by-cons unsigned_abs c cs, right-distrib (unsigned_abs c) (sum_by unsigned_abs cs) m) both

  pub stays_below : (limit : ℕ) (cs : List ℤ) → (1 + sum_by unsigned_abs cs) * m < limit → StayBelow limit cs s
  stays_below limit cs less = record {
    products = λ k i.
        let p : unsigned_abs (sample_at cs k *ℤ sample_at s i) ≤ sum_by unsigned_abs cs * m = abs_product (sample_at cs k) (sample_at s i) (sum_by unsigned_abs cs) m (one_below cs k) (most i) in
        omega (arith, p, less, one_more (sum_by unsigned_abs cs) m);
    sums = λ k i j.
        let p : unsigned_abs (weighted (take k cs) s i) ≤ sum_by unsigned_abs (take k cs) * m = weighted_below (take k cs) i in
        let q : sum_by unsigned_abs (take k cs) * m ≤ sum_by unsigned_abs cs * m = mul-le (sum_by unsigned_abs (take k cs)) m (sum_by unsigned_abs cs) m (sum_by-take-le unsigned_abs cs k) (omega arith) in
        omega (arith, p, q, less, most j, one_more (sum_by unsigned_abs cs) m);
  }

-- ---- from the first sums to what is left

pub no_sums : (cs s sums : List ℤ) → ((j : ℕ) → j < length sums → sample_at sums j ≡ pos 0) → HasSums 0 cs s sums
unfolding weighted
no_sums [] s sums none j h = none j h
no_sums (c ∷ cs) s sums none j h = none j h

pub sums_below : (limit : ℕ) (cs s sums : List ℤ) (k : ℕ) → HasSums k cs s sums → StayBelow limit cs s → (j : ℕ) → j < length sums
    → unsigned_abs (sample_at s (length cs + j)) + unsigned_abs (sample_at sums j) < limit
sums_below limit cs s sums k so small j h = rw (so j h) (small.sums k (length cs + j) (length cs + j))

pub differences_from : (cs s : List ℤ) (shift : ℕ) (sums values : List ℤ) → length values ≡ length sums → length values + length cs ≡ length s → HasSums (length cs) cs s sums
    → ((j : ℕ) → j < length sums → sample_at values j ≡ sample_at s (length cs + j) -ℤ int_shr (sample_at sums j) shift) → values ≡ differences cs shift s
unfolding difference
differences_from cs s shift sums values long whole so is =
    let n : ℕ = length s - length cs in
    let f : ℕ → ℤ = difference cs shift s in
    ext_get_or (pos 0) values (map f (range_with_len 0 n)) (omega (arith, length-map-range_with_len f 0 n)) (λ j h.
    let at : j < length sums = omega (arith, h, long) in
    let sum : sample_at sums j ≡ weighted cs s (length cs + j) = so j at ∙ ap (λ (l : List ℤ). weighted l s (length cs + j)) (take_all (length cs) cs (omega arith)) in
    is j at ∙ ap (λ (z : ℤ). sample_at s (length cs + j) -ℤ int_shr z shift) sum ∙ sym (get_or-map-range_with_len f 0 n j j (pos 0) (omega (arith, h)) (omega arith)))

-- ---- the same without the folded numbers

-- the first i places have what is left, and the others the sums
pub record PartlyLeft (order shift : ℕ) (s sums : List ℤ) (i : ℕ) (values : List ℤ) : Type 0 where
  pub done : (j : ℕ) → j < i → j < length values → sample_at values j ≡ sample_at s (order + j) -ℤ int_shr (sample_at sums j) shift
  pub left : (j : ℕ) → i ≤ j → j < length values → sample_at values j ≡ sample_at sums j

module _ (order shift : ℕ) (s sums values : List ℤ) where
  pub partly_start : sums ≡ values → PartlyLeft order shift s sums 0 values
  partly_start e = record { done = λ j h l. absurd (omega (arith, h)); left = λ j h l. rw e refl }

  pub partly_more : (i : ℕ) (v : ℤ) → i < length values → v ≡ sample_at s (order + i) -ℤ int_shr (sample_at sums i) shift → PartlyLeft order shift s sums i values → PartlyLeft order shift s sums (i + 1) (slice_set values i v)
  partly_more i v within is so = record {
    done = λ j h l. elim (cases_lt j i) [
      | inl d ↦ get_or-set_other values i j v (pos 0) (λ e. omega arith) ∙ so.done j d (omega arith)
      | inr d ↦ let e : j ≡ i = omega arith in rw e (get_or-set_same values i v (pos 0) within ∙ is)
    ];
    left = λ j h l. get_or-set_other values i j v (pos 0) (λ e. omega arith) ∙ so.left j (omega arith) (omega (arith, l, length-set values i v));
  }

  pub partly_end : (i : ℕ) → length values ≤ i → PartlyLeft order shift s sums i values → (j : ℕ) → j < length values → sample_at values j ≡ sample_at s (order + j) -ℤ int_shr (sample_at sums j) shift
  partly_end i over so j l = so.done j (omega arith) l

-- ---- sums of samples of at most 27 bits fit 64 bits

weights_small : (cs : List ℤ) → All (FitsBits 15) cs → sum_by unsigned_abs cs ≤ 2 ^ 14 * length cs
weights_small [] all = omega arith
weights_small (c ∷ cs) all =
    let one : unsigned_abs c ≤ 2 ^ 14 = abs_from_bits_15 c (all 0 (pos 0) (omega arith)) in
    rw (sum_by-cons unsigned_abs c cs) (omega (arith, one, weights_small cs (λ k d h. all (suc k) d (omega (arith, h)))))

pub stays_below_wide : (cs s : List ℤ) → length cs ≤ 32 → All (FitsBits 15) cs → ((i : ℕ) → unsigned_abs (sample_at s i) ≤ 2 ^ 26) → StayBelow (2 ^ 63) cs s
stays_below_wide cs s few all most = stays_below s (2 ^ 26) most (2 ^ 63) cs (omega (arith, few, weights_small cs all))

pub peak_of : (s : List ℤ) → All (FitsBits 27) s → (i : ℕ) → unsigned_abs (sample_at s i) ≤ 2 ^ 26
peak_of s all i = elim (cases_lt i (length s)) [
  | inl d ↦ let fit = all i (pos 0) d in omega (arith, ints, fit.low, fit.high)
  | inr d ↦ rw (get_or-eq_default s (pos 0) {n = i} d) (omega arith)
]
