-- Restoration by a fixed predictor, whose last sample and its differences are running sums.
use Rattle.std.proofs.Common.{◌≡◌, ◌∙◌, ◌↔◌, ℕ, zero, suc, ◌+◌, ◌-◌, ◌*◌, ◌^◌, ◌≤◌, ◌<◌, refl, sym, ap, arith, ℤ, pos, ◌+ℤ◌, ◌-ℤ◌, List, [], ◌∷◌, length, slice_set, inl, inr, bit_or, to_z, of_z, w64, All}
use Rattle.std.specs.Int.{int_shr}
use Rattle.std.specs.List.{AllWithin}
use Rattle.std.specs.Int.RustNames.{unsigned_abs}
use Rattle.std.proofs.lemmas.Int.{ints}
use Rattle.std.proofs.lemmas.Bool.{cases_lt}
use Rattle.std.proofs.lemmas.Nat.{le_or_l, le_or_r, or_lt, pow_pos}
use Rattle.std.proofs.lemmas.List.{get_or-set_same, get_or-set_other, get_or_default}
use Rattle.flac_bits.specs.Signed.{FitsBits}
use Rattle.flac_subframe.specs.format.Numbers.{sample_at}
use Rattle.flac_subframe.specs.format.Prediction.{prediction, fixed_coefficients, Restored}
use Rattle.flac_subframe.specs.format.inner.Summing.{IsHeld}
use Rattle.flac_subframe.specs.format.inner.Sums.{second_of, third_of, fourth_of, RestoredFrom}
use Rattle.flac_subframe.proofs.lemmas.format.Bounds.{abs_from_bits_33, back, back_33}
use Rattle.flac_subframe.proofs.lemmas.format.Predicted.{fixed_length}
use Rattle.flac_subframe.proofs.lemmas.format.FixedSums.{no_terms, one_term, two_terms, three_terms, four_terms}
use Rattle.flac_subframe.proofs.lemmas.format.Nearest.{HoldsLast, predicted_after, fourth_plain}
use Rattle.flac_subframe.proofs.lemmas.format.Restoring.{RestoredTo, weighted_agrees, restored_alike}

-- the nearest sample before an index and its differences, as many of them as the order has
abbrev pub Runs : ℕ → List ℤ → ℕ → ℤ → ℤ → ℤ → ℤ → Type 0
Runs order s i value slope bend twist = HoldsLast order s i value (second_of value slope) (third_of value slope bend) (fourth_of value slope bend twist)

-- how great they are after n rounds
pub record Small (n : ℕ) (v a b t : ℤ) : Type 0 where
  pub value : unsigned_abs v ≤ 2 ^ 32 + 2 ^ 55 * n
  pub slope : unsigned_abs a ≤ 2 ^ 33 + 2 ^ 47 * n
  pub bend : unsigned_abs b ≤ 2 ^ 34 + 2 ^ 39 * n
  pub twist : unsigned_abs t ≤ 2 ^ 35 + 2 ^ 31 * n

-- the samples from one index up to another fit
abbrev pub FitFrom : ℕ → List ℤ → ℕ → ℕ → Type 0
FitFrom bits s start end = (k : ℕ) → start ≤ k → k < end → FitsBits bits (sample_at s k)

-- the first i samples of a group are restored, and their last one and its differences are held
pub record Group (order bits : ℕ) (r s : List ℤ) (start i wrong : ℕ) (v a b t : ℤ) : Type 0 where
  pub so : RestoredFrom (fixed_coefficients order) 0 r s start (start + i)
  pub runs : Runs order s (start + i) v a b t
  pub small : Small i v a b t
  pub good : wrong < 2 ^ bits → FitFrom bits s start (start + i)
  pub only : FitFrom bits s start (start + i) → wrong < 2 ^ bits

as_group : (order bits : ℕ) (r s : List ℤ) (start i wrong : ℕ) (v a b t : ℤ) (j : ℕ) → start + i ≡ j → RestoredFrom (fixed_coefficients order) 0 r s start j → Runs order s j v a b t → Small i v a b t
    → (wrong < 2 ^ bits → FitFrom bits s start j) → (FitFrom bits s start j → wrong < 2 ^ bits) → Group order bits r s start i wrong v a b t
as_group order bits r s start i wrong v a b t j e so runs small good only = record { so = rw e so; runs = rw e runs; small = small; good = rw e good; only = rw e only }

-- whatever is read past the end
pub fit_anywhere : (bits : ℕ) (s : List ℤ) (start end : ℕ) → end ≤ length s → FitFrom bits s start end → AllWithin (FitsBits bits) s start end
fit_anywhere bits s start end within fits k d low high = rw (get_or_default s k d (pos 0) (omega arith)) (fits k low high)

-- a running sum after one number more
pub record Raised (order level : ℕ) (sum number new : ℤ) : Type 0 where
  pub added : level ≤ order → new ≡ sum +ℤ number
  pub passed : order < level → new ≡ number

raised_small : (order level : ℕ) (sum number new : ℤ) (m n : ℕ) → Raised order level sum number new → unsigned_abs sum ≤ m → unsigned_abs number ≤ n → unsigned_abs new ≤ m + n
raised_small order level sum number new m n so p q = elim (cases_lt order level) [
  | inl lt ↦ rw (so.passed lt) (omega (arith, q))
  | inr ge ↦ rw (so.added ge) (omega (arith, ints, p, q))
]

-- the bounds of one round, whose sums are all held
module _ (order n : ℕ) (few : n < 240) (v a b t r : ℤ) (small : Small n v a b t) (fit : FitsBits 32 r) where
  pub number_small : unsigned_abs r ≤ 2 ^ 31
  number_small = omega (arith, ints, fit.low, fit.high)

  pub twist_held : IsHeld (t +ℤ r)
  twist_held = omega (arith, ints, few, small.twist, number_small)

  module _ (t' : ℤ) (twist : Raised order 4 t r t') where
    twist_small : unsigned_abs t' ≤ 2 ^ 35 + 2 ^ 31 * (n + 1)
    twist_small = omega (arith, raised_small order 4 t r t' (2 ^ 35 + 2 ^ 31 * n) (2 ^ 31) twist small.twist number_small)

    twist_most : unsigned_abs t' ≤ 2 ^ 39
    twist_most = omega (arith, few, twist_small)

    pub bend_held : IsHeld (b +ℤ t')
    bend_held = omega (arith, ints, few, small.bend, twist_most)

    module _ (b' : ℤ) (bend : Raised order 3 b t' b') where
      bend_small : unsigned_abs b' ≤ 2 ^ 34 + 2 ^ 39 * (n + 1)
      bend_small = omega (arith, raised_small order 3 b t' b' (2 ^ 34 + 2 ^ 39 * n) (2 ^ 39) bend small.bend twist_most)

      bend_most : unsigned_abs b' ≤ 2 ^ 47
      bend_most = omega (arith, few, bend_small)

      pub slope_held : IsHeld (a +ℤ b')
      slope_held = omega (arith, ints, few, small.slope, bend_most)

      module _ (a' : ℤ) (slope : Raised order 2 a b' a') where
        slope_small : unsigned_abs a' ≤ 2 ^ 33 + 2 ^ 47 * (n + 1)
        slope_small = omega (arith, raised_small order 2 a b' a' (2 ^ 33 + 2 ^ 47 * n) (2 ^ 47) slope small.slope bend_most)

        slope_most : unsigned_abs a' ≤ 2 ^ 55
        slope_most = omega (arith, few, slope_small)

        pub value_held : IsHeld (v +ℤ a')
        value_held = omega (arith, ints, few, small.value, slope_most)

        module _ (v' : ℤ) (value : Raised order 1 v a' v') where
          value_small : unsigned_abs v' ≤ 2 ^ 32 + 2 ^ 55 * (n + 1)
          value_small = omega (arith, raised_small order 1 v a' v' (2 ^ 32 + 2 ^ 55 * n) (2 ^ 55) value small.value slope_most)

          pub still_small : Small (n + 1) v' a' b' t'
          still_small = record { value = value_small; slope = slope_small; bend = bend_small; twist = twist_small }

          pub value_near : unsigned_abs v' + 2 ^ 32 < 2 ^ 63
          value_near = omega (arith, few, value_small)

-- what one round makes of them
module _ (order : ℕ) (few : order ≤ 4) (v a b t r t' b' a' v' : ℤ) (twist : Raised order 4 t r t') (bend : Raised order 3 b t' b') (slope : Raised order 2 a b' a') (value : Raised order 1 v a' v') where
  sum_is : (n : ℕ) → n ≡ order → v' ≡ prediction (fixed_coefficients n) 0 (fourth_of v a b t ∷ third_of v a b ∷ second_of v a ∷ v ∷ []) 4 +ℤ r
  sum_is zero e = rw (no_terms _ _ _ _) (omega (arith, ints, twist.passed (omega arith), bend.passed (omega arith), slope.passed (omega arith), value.passed (omega arith)))
  sum_is (suc zero) e = rw (one_term _ _ _ _) (omega (arith, ints, twist.passed (omega arith), bend.passed (omega arith), slope.passed (omega arith), value.added (omega arith)))
  sum_is (suc (suc zero)) e = rw (two_terms _ _ _ _) (omega (arith, ints, twist.passed (omega arith), bend.passed (omega arith), slope.added (omega arith), value.added (omega arith)))
  sum_is (suc (suc (suc zero))) e = rw (three_terms _ _ _ _) (omega (arith, ints, twist.passed (omega arith), bend.added (omega arith), slope.added (omega arith), value.added (omega arith)))
  sum_is (suc (suc (suc (suc zero)))) e = rw (four_terms _ _ _ _) (omega (arith, ints, twist.added (omega arith), bend.added (omega arith), slope.added (omega arith), value.added (omega arith)))
  sum_is (suc (suc (suc (suc (suc n))))) e = absurd (omega arith)

  module _ (s : List ℤ) (i : ℕ) (long : order ≤ i) (runs : Runs order s i v a b t) where
    -- the sample is its prediction and the residual value
    pub value_is : v' ≡ prediction (fixed_coefficients order) 0 s i +ℤ r
    value_is = sum_is order refl ∙ ap (λ (z : ℤ). z +ℤ r) (predicted_after order s i _ _ _ _ few long runs)

    was : (k : ℕ) → k < i → sample_at (slice_set s i v') k ≡ sample_at s k
    was k h = get_or-set_other s i k v' (pos 0) (λ f. omega arith)

    pub runs_more : i < length s → Runs order (slice_set s i v') (i + 1) v' a' b' t'
    runs_more within = record {
      one = λ h. let e : i + 1 - 1 ≡ i = omega arith in sym (rw e (get_or-set_same s i v' (pos 0) within));
      two = λ h. let e : i + 1 - 2 ≡ i - 1 = omega arith in
          let here : second_of v' a' ≡ v = omega (arith, ints, value.added (omega arith)) in
          rw e (here ∙ runs.one (omega arith) ∙ sym (was (i - 1) (omega arith)));
      three = λ h. let e : i + 1 - 3 ≡ i - 2 = omega arith in
          let here : third_of v' a' b' ≡ second_of v a = omega (arith, ints, value.added (omega arith), slope.added (omega arith)) in
          rw e (here ∙ runs.two (omega arith) ∙ sym (was (i - 2) (omega arith)));
      four = λ h. let e : i + 1 - 4 ≡ i - 3 = omega arith in
          let here : fourth_of v' a' b' t' ≡ third_of v a b = omega (arith, ints, value.added (omega arith), slope.added (omega arith), bend.added (omega arith)) in
          rw e (here ∙ runs.three (omega arith) ∙ sym (was (i - 3) (omega arith)));
    }

-- before the first round: the nearest sample and its differences as the code has them
abbrev kept : ℤ → ℤ
kept z = to_z w64 (of_z w64 z)

-- the difference of two numbers, and the bounds that it keeps
gap_is : (a b d : ℤ) (m n : ℕ) → d ≡ kept a -ℤ kept b → unsigned_abs a ≤ m → unsigned_abs b ≤ n → m + n < 2 ^ 63 → d ≡ a -ℤ b
gap_is a b d m n e p q few = rw (back a (omega (arith, p, few)), back b (omega (arith, q, few))) at e

gap_small : (a b d : ℤ) (m n : ℕ) → d ≡ a -ℤ b → unsigned_abs a ≤ m → unsigned_abs b ≤ n → unsigned_abs d ≤ m + n
gap_small a b d m n e p q = omega (arith, ints, e, p, q)

gap_held : (a b : ℤ) (m n : ℕ) → unsigned_abs a ≤ m → unsigned_abs b ≤ n → m + n < 2 ^ 63 → IsHeld (kept a -ℤ kept b)
gap_held a b m n p q few = rw (back a (omega (arith, p, few)), back b (omega (arith, q, few))) (omega (arith, gap_small a b (a -ℤ b) m n refl p q, few))

module _ (a b c d s p q : ℤ) (fa : FitsBits 33 a) (fb : FitsBits 33 b) (fc : FitsBits 33 c) (fd : FitsBits 33 d) (es : s ≡ kept a -ℤ kept b) (ep : p ≡ kept b -ℤ kept c) (eq : q ≡ kept c -ℤ kept d) where
  wide : 2 ^ 32 + 2 ^ 32 < 2 ^ 63
  wide = omega arith

  s_is : s ≡ a -ℤ b
  s_is = gap_is a b s (2 ^ 32) (2 ^ 32) es (abs_from_bits_33 a fa) (abs_from_bits_33 b fb) wide

  p_is : p ≡ b -ℤ c
  p_is = gap_is b c p (2 ^ 32) (2 ^ 32) ep (abs_from_bits_33 b fb) (abs_from_bits_33 c fc) wide

  q_is : q ≡ c -ℤ d
  q_is = gap_is c d q (2 ^ 32) (2 ^ 32) eq (abs_from_bits_33 c fc) (abs_from_bits_33 d fd) wide

  s_small : unsigned_abs s ≤ 2 ^ 33
  s_small = omega (arith, gap_small a b s (2 ^ 32) (2 ^ 32) s_is (abs_from_bits_33 a fa) (abs_from_bits_33 b fb))

  p_small : unsigned_abs p ≤ 2 ^ 33
  p_small = omega (arith, gap_small b c p (2 ^ 32) (2 ^ 32) p_is (abs_from_bits_33 b fb) (abs_from_bits_33 c fc))

  q_small : unsigned_abs q ≤ 2 ^ 33
  q_small = omega (arith, gap_small c d q (2 ^ 32) (2 ^ 32) q_is (abs_from_bits_33 c fc) (abs_from_bits_33 d fd))

  wider : 2 ^ 33 + 2 ^ 33 < 2 ^ 63
  wider = omega arith

  pub bend_gap : IsHeld (kept s -ℤ kept p)
  bend_gap = gap_held s p (2 ^ 33) (2 ^ 33) s_small p_small wider

  module _ (n m : ℤ) (en : n ≡ kept s -ℤ kept p) (em : m ≡ kept p -ℤ kept q) where
    n_is : n ≡ s -ℤ p
    n_is = gap_is s p n (2 ^ 33) (2 ^ 33) en s_small p_small wider

    m_is : m ≡ p -ℤ q
    m_is = gap_is p q m (2 ^ 33) (2 ^ 33) em p_small q_small wider

    n_small : unsigned_abs n ≤ 2 ^ 34
    n_small = omega (arith, gap_small s p n (2 ^ 33) (2 ^ 33) n_is s_small p_small)

    m_small : unsigned_abs m ≤ 2 ^ 34
    m_small = omega (arith, gap_small p q m (2 ^ 33) (2 ^ 33) m_is p_small q_small)

    widest : 2 ^ 34 + 2 ^ 34 < 2 ^ 63
    widest = omega arith

    pub twist_gap : IsHeld (kept n -ℤ kept m)
    twist_gap = gap_held n m (2 ^ 34) (2 ^ 34) n_small m_small widest

    module _ (t : ℤ) (et : t ≡ kept n -ℤ kept m) where
      t_is : t ≡ n -ℤ m
      t_is = gap_is n m t (2 ^ 34) (2 ^ 34) et n_small m_small widest

      t_small : unsigned_abs t ≤ 2 ^ 35
      t_small = omega (arith, gap_small n m t (2 ^ 34) (2 ^ 34) t_is n_small m_small)

      plain_small : Small 0 a s n t
      plain_small = record {
        value = omega (arith, abs_from_bits_33 a fa);
        slope = omega (arith, s_small);
        bend = omega (arith, n_small);
        twist = omega (arith, t_small);
      }

      plain_runs : (order : ℕ) (xs : List ℤ) (i : ℕ) → (1 ≤ order → a ≡ sample_at xs (i - 1)) → (2 ≤ order → b ≡ sample_at xs (i - 2)) → (3 ≤ order → c ≡ sample_at xs (i - 3)) → (4 ≤ order → d ≡ sample_at xs (i - 4)) → Runs order xs i a s n t
      plain_runs order xs i one two three four =
          let second : second_of a s ≡ b = omega (arith, ints, s_is) in
          let third : third_of a s n ≡ c = omega (arith, ints, s_is, n_is, p_is) in
          let fourth : fourth_of a s n t ≡ d = fourth_plain a b c d s p q n m t s_is p_is q_is n_is m_is t_is in
          record { one = one; two = λ h. second ∙ two h; three = λ h. third ∙ three h; four = λ h. fourth ∙ four h }

      pub group_starts : (order bits : ℕ) (xs : List ℤ) (i : ℕ) → (1 ≤ order → a ≡ sample_at xs (i - 1)) → (2 ≤ order → b ≡ sample_at xs (i - 2)) → (3 ≤ order → c ≡ sample_at xs (i - 3)) → (4 ≤ order → d ≡ sample_at xs (i - 4))
          → Group order bits xs xs i 0 0 (kept a) (kept s) (kept n) (kept t)
      group_starts order bits xs i one two three four =
          let all : Group order bits xs xs i 0 0 a s n t = as_group order bits xs xs i 0 0 a s n t i (omega arith)
          (record { before = λ k h. refl; later = λ k g h. absurd (omega arith); rest = λ k h. refl }) (plain_runs order xs i one two three four) plain_small
          (λ h k g l. absurd (omega arith)) (λ h. pow_pos bits) in
          rw (back_33 a fa, back s (omega (arith, s_small)), back n (omega (arith, n_small)), back t (omega (arith, t_small))) all

-- one sample more in the group
module _ (cs : List ℤ) (r s : List ℤ) (start i : ℕ) (v : ℤ) (long : length cs ≤ start) (from : start ≤ i) (within : i < length s) where
  was_before : (k : ℕ) → k < i → sample_at (slice_set s i v) k ≡ sample_at s k
  was_before k h = get_or-set_other s i k v (pos 0) (λ f. omega arith)

  is_there : sample_at (slice_set s i v) i ≡ v
  is_there = get_or-set_same s i v (pos 0) within

  pub group_more : RestoredFrom cs 0 r s start i → v ≡ prediction cs 0 s i +ℤ sample_at r i → RestoredFrom cs 0 r (slice_set s i v) start (i + 1)
  group_more so is =
      let same : (k : ℕ) → start ≤ k → k ≤ i → prediction cs 0 (slice_set s i v) k ≡ prediction cs 0 s k = λ k g h. ap (λ (z : ℤ). int_shr z 0) (weighted_agrees cs (slice_set s i v) s k (omega arith) (λ j b. was_before j (omega arith))) in
      record {
        before = λ k h. was_before k (omega arith) ∙ so.before k h;
        later = λ k g h. elim (cases_lt k i) [
          | inl b ↦ rw (was_before k b, same k g (omega arith)) (so.later k g b)
          | inr b ↦ let e : k ≡ i = omega arith in rw (e, is_there, same i from (omega arith)) is
        ];
        rest = λ k h. get_or-set_other s i k v (pos 0) (λ e. omega arith) ∙ so.rest k (omega arith);
      }

  pub fit_more : (bits : ℕ) → FitFrom bits s start i → FitsBits bits v → FitFrom bits (slice_set s i v) start (i + 1)
  fit_more bits fits fit k g h = elim (cases_lt k i) [
    | inl b ↦ rw (was_before k b) (fits k g b)
    | inr b ↦ let e : k ≡ i = omega arith in rw (e, is_there) fit
  ]

  pub fit_less : (bits : ℕ) → FitFrom bits (slice_set s i v) start (i + 1) → FitFrom bits s start i
  fit_less bits fits k g h = rw (was_before k h) at (fits k g (omega arith))

  pub fits_there : (bits : ℕ) → FitFrom bits (slice_set s i v) start (i + 1) → FitsBits bits v
  fits_there bits fits = rw is_there at (fits i from (omega arith))

-- one round of the loop
pub round : (order bits : ℕ) (r s : List ℤ) (start i wrong more : ℕ) (v a b t x t' b' a' v' : ℤ) → order ≤ 4 → order ≤ start → start + i < length s → Group order bits r s start i wrong v a b t → i < 240 → x ≡ sample_at r (start + i) → FitsBits 32 x
    → Raised order 4 t x t' → Raised order 3 b t' b' → Raised order 2 a b' a' → Raised order 1 v a' v' → ((more < 2 ^ bits) ↔ FitsBits bits v') → Group order bits r (slice_set s (start + i) v') start (i + 1) (bit_or wrong more) v' a' b' t'
round order bits r s start i wrong more v a b t x t' b' a' v' few long within g less is fit twist bend slope value judged =
    let next : start + (i + 1) ≡ start + i + 1 = omega arith in
    let size = fixed_length order few in
    let cs = fixed_coefficients order in
    let long' : length cs ≤ start = omega (arith, size, long) in
    let from : start ≤ start + i = omega arith in
    let added : v' ≡ prediction cs 0 s (start + i) +ℤ sample_at r (start + i) = rw is at (value_is order few v a b t x t' b' a' v' twist bend slope value s (start + i) (omega arith) g.runs) in
    as_group order bits r (slice_set s (start + i) v') start (i + 1) (bit_or wrong more) v' a' b' t' (start + i + 1) next
    (group_more cs r s start (start + i) v' long' from within g.so added)
    (runs_more order few v a b t x t' b' a' v' twist bend slope value s (start + i) (omega arith) g.runs within)
    (still_small order i less v a b t x g.small fit t' twist b' bend a' slope v' value)
    (λ h. fit_more cs r s start (start + i) v' long' from within bits (g.good (omega (arith, h, le_or_l wrong more))) (judged.0 (omega (arith, h, le_or_r wrong more))))
    (λ h. or_lt bits wrong more (g.only (fit_less cs r s start (start + i) v' long' from within bits h)) (judged.1 (fits_there cs r s start (start + i) v' long' from within bits h)))

-- a group after those that are restored
module _ (cs : List ℤ) (bits : ℕ) (r s t : List ℤ) (start end : ℕ) (long : length cs ≤ start) (so : RestoredTo cs 0 bits r s start) (more : RestoredFrom cs 0 s t start end) where
  warm_up_on : (k : ℕ) → k < length cs → sample_at t k ≡ sample_at r k
  warm_up_on k h = more.before k (omega arith) ∙ so.warm_up k h

  later_on : (k : ℕ) → length cs ≤ k → k < end → sample_at t k ≡ prediction cs 0 t k +ℤ sample_at r k
  later_on k g h =
      let same : (j : ℕ) → length cs ≤ j → j ≤ start → prediction cs 0 t j ≡ prediction cs 0 s j = λ j f b. ap (λ (z : ℤ). int_shr z 0) (weighted_agrees cs t s j f (λ m q. more.before m (omega arith))) in
      elim (cases_lt k start) [
        | inl b ↦ rw (more.before k b, same k g (omega arith)) (so.later k g b)
        | inr b ↦ more.later k b h ∙ ap (λ z. prediction cs 0 t k +ℤ z) (so.rest k b)
      ]

  pub goes_on : start ≤ end → FitFrom bits t start end → RestoredTo cs 0 bits r t end
  goes_on le fits = record {
    warm_up = warm_up_on;
    later = later_on;
    rest = λ k h. more.rest k h ∙ so.rest k (omega arith);
    fits = λ k h. elim (cases_lt k start) [
      | inl b ↦ rw (more.before k b) (so.fits k b)
      | inr b ↦ fits k b h
    ];
  }

  -- if there are samples that are so restored and fit, the group fits
  pub must_fit : (u : List ℤ) → end ≤ length r → Restored cs 0 r u → All (FitsBits bits) u → FitFrom bits t start end
  must_fit u within all fit k g h = rw (restored_alike cs 0 bits r t u end end within warm_up_on later_on all (omega arith) k h) (fit k (pos 0) (rw all.long (omega arith)))
