-- Multiples of powers of two, and samples without their lowest bits.
use Rattle.std.proofs.Common.{◌≡◌, ◌⊎◌, ◌∙◌, refl, sym, ap, inl, inr, ℕ, zero, suc, ◌+◌, ◌-◌, ◌*◌, ◌/◌, ◌^◌, ◌≤◌, ◌<◌, arith, ℤ, pos, negsuc, neg_ℤ, ◌+ℤ◌, List, [], ◌∷◌, length, map, All}
use Rattle.std.specs.Int.{int_shr}
use Rattle.std.specs.Int.RustNames.{unsigned_abs}
use Rattle.std.proofs.Math.IntN.{zero-*ℤ}
use Rattle.std.proofs.Math.Nat.{pow-suc, mul_assoc, add-mul}
use Rattle.std.proofs.lemmas.Int.{ints, unsigned_abs-mul}
use Rattle.std.proofs.lemmas.Nat.{shr-shr, mul-le, pow_pos}
use Rattle.std.proofs.lemmas.Bool.{cases_lt}
use Rattle.std.proofs.lemmas.List.{same_lists, get_or_default, length-map, get_or-map}
use Rattle.flac_bits.specs.Signed.{FitsBits}
use Rattle.flac_subframe.specs.format.Numbers.{sample_at}
use Rattle.flac_subframe.specs.format.Wasted.{times_power, Multiple, IsWasted, shortened}

pub half_low : (z : ℤ) → (int_shr z 1 +ℤ int_shr z 1 ≡ z) ⊎ (int_shr z 1 +ℤ int_shr z 1 +ℤ pos 1 ≡ z)
half_low (pos a) = elim (cases_lt (a - a / 2 * 2) 1) [ inl h ↦ inl (omega (arith, ints)) | inr h ↦ inr (omega (arith, ints)) ]
half_low (negsuc a) = elim (cases_lt (a - a / 2 * 2) 1) [ inl h ↦ inr (omega (arith, ints)) | inr h ↦ inl (omega (arith, ints)) ]

pub half_of_twice : (x : ℤ) → int_shr (x +ℤ x) 1 ≡ x
half_of_twice x = elim (half_low (x +ℤ x)) [ inl h ↦ omega (arith, ints, h) | inr h ↦ omega (arith, ints, h) ]

pub times_more : (k : ℕ) (z : ℤ) → times_power (suc k) z ≡ times_power k (z +ℤ z)
times_more k (pos a) = rw pow-suc (ap pos (omega (arith, add-mul a a (2 ^ k), sym (mul_assoc a (2 ^ k) 2))))
times_more k (negsuc a) = ap (λ (n : ℕ). neg_ℤ (pos n)) (let e : suc (suc (a + a)) ≡ suc a + suc a = omega arith in
    rw (pow-suc, e) (omega (arith, add-mul (suc a) (suc a) (2 ^ k), sym (mul_assoc (suc a) (2 ^ k) 2))))

pub times_twice : (k : ℕ) (z : ℤ) → times_power k (z +ℤ z) ≡ times_power k z +ℤ times_power k z
times_twice k (pos a) = ap pos (add-mul a a (2 ^ k))
times_twice k (negsuc a) =
    let e : suc (suc (a + a)) ≡ suc a + suc a = omega arith in
    rw e (omega (arith, ints, add-mul (suc a) (suc a) (2 ^ k)))

shift_none : (z : ℤ) → int_shr z 0 ≡ z
shift_none (pos a) = ap pos (omega arith)
shift_none (negsuc a) = ap negsuc (omega arith)

shift_more : (k : ℕ) (z : ℤ) → int_shr z (suc k) ≡ int_shr (int_shr z 1) k
shift_more k (pos a) = let e : 1 + k ≡ suc k = omega arith in ap pos (rw (← e) (sym (shr-shr a 1 k)))
shift_more k (negsuc a) = let e : 1 + k ≡ suc k = omega arith in ap negsuc (rw (← e) (sym (shr-shr a 1 k)))

pub none_times : (z : ℤ) → times_power zero z ≡ z
none_times (pos a) = ap pos (omega arith)
none_times (negsuc a) = omega (arith, ints)

pub dropped : (k : ℕ) (z : ℤ) → int_shr (times_power k z) k ≡ z
dropped zero z = ap (λ (x : ℤ). int_shr x 0) (none_times z) ∙ shift_none z
dropped (suc k) z = rw (times_more k z, times_twice k z) (shift_more k (times_power k z +ℤ times_power k z) ∙ rw (half_of_twice (times_power k z)) (dropped k z))

pub times_sum : (m k : ℕ) (q : ℤ) → times_power (m + k) q ≡ times_power k (times_power m q)
times_sum zero k q = let e : zero + k ≡ k = omega arith in ap (λ (n : ℕ). times_power n q) e ∙ ap (times_power k) (sym (none_times q))
times_sum (suc m) k q = let e : suc m + k ≡ suc (m + k) = omega arith in rw (e, times_more (m + k) q, times_more m q) (times_sum m k (q +ℤ q))

pub shortened_is : (k : ℕ) (s t : List ℤ) → s ≡ map (times_power k) t → shortened k s ≡ t
shortened_is k s t e = rw e (each t)
  where
    each : (t : List ℤ) → map (λ z. int_shr z k) (map (times_power k) t) ≡ t
    each [] = refl
    each (x ∷ xs) = rw (dropped k x, each xs) refl

-- what stays of the samples, index by index
power_more : (l : ℕ) → 1 ≤ l → 2 ^ l ≡ 2 * 2 ^ (l - 1)
power_more zero h = absurd (omega arith)
power_more (suc l) h = let e : suc l - 1 ≡ l = omega arith in rw (e, pow-suc) (omega arith)

zero_is : (z : ℤ) → unsigned_abs z ≡ 0 → z ≡ pos 0
zero_is (pos a) h = ap pos h
zero_is (negsuc a) h = absurd (omega arith)

module _ (k : ℕ) (s t : List ℤ) (long : length t ≡ length s) (so : (i : ℕ) → i < length s → sample_at s i ≡ times_power k (sample_at t i)) where
  pub all_times : s ≡ map (times_power k) t
  all_times = same_lists s (map (times_power k) t) (sym (length-map t (times_power k) ∙ long)) (λ i d h.
      let h' : i < length t = omega arith in
      get_or_default s i d (pos 0) h ∙ so i h ∙ sym (get_or-map (times_power k) t i (pos 0) d h'))

  pub all_multiple : All (Multiple k) s
  all_multiple = λ i d h. (sample_at t i, get_or_default s i d (pos 0) h ∙ so i h)

  -- where all are multiples of a greater power, all that stays is even
  pub even : (j : ℕ) → k < j → All (Multiple j) s → (i : ℕ) → i < length t → int_shr (sample_at t i) 1 +ℤ int_shr (sample_at t i) 1 ≡ sample_at t i
  even j more all i h =
      let m = all i (pos 0) (omega arith) in
      let q : ℤ = m.0 in
      let n : ℕ = j - suc k in
      let e : j ≡ suc n + k = omega arith in
      let same : sample_at s i ≡ times_power k (times_power (suc n) q) = m.1 ∙ ap (λ (x : ℕ). times_power x q) e ∙ times_sum (suc n) k q in
      let x : ℤ = times_power n q in
      let is : sample_at t i ≡ x +ℤ x = sym (dropped k (sample_at t i)) ∙ ap (λ (z : ℤ). int_shr z k) (sym (so i (omega arith)) ∙ same) ∙ dropped k (times_power (suc n) q) ∙ times_more n q ∙ times_twice n q in
      rw (is, half_of_twice x) refl

  pub none_wasted : ((j : ℕ) → (All (Multiple j) s) → j ≤ k) → IsWasted k s
  none_wasted most = inr (all_multiple, most)

  -- samples that fit n bits, and are multiples of that power, are silence
  pub silent : (1 ≤ k) → All (FitsBits k) s → (i : ℕ) → i < length s → (sample_at t i ≡ pos 0) × (sample_at s i ≡ pos 0)
  silent some fits i h =
      let f = fits i (pos 0) h in
      let z : ℤ = sample_at t i in
      let e : sample_at s i ≡ times_power k z = so i h in
      let size : unsigned_abs (sample_at s i) ≡ unsigned_abs z * 2 ^ k = rw e (unsigned_abs-mul z (pos (2 ^ k))) in
      let twice : 2 ^ k ≡ 2 * 2 ^ (k - 1) = power_more k some in
      let small : unsigned_abs (sample_at s i) ≤ 2 ^ (k - 1) = omega (arith, ints, f.low, f.high) in
      let none : unsigned_abs z ≡ 0 = elim (cases_lt (unsigned_abs z) 1) [ inl b ↦ omega arith | inr b ↦ absurd (omega (arith, mul-le 1 (2 ^ k) (unsigned_abs z) (2 ^ k) b (omega arith), pow_pos k)) ] in
      let zero' : z ≡ pos 0 = zero_is z none in
      (zero', e ∙ rw zero' (omega (arith, ints)))

-- there is one such exponent
silence_divides : (s : List ℤ) (j : ℕ) → All (λ z. z ≡ pos 0) s → All (Multiple j) s
silence_divides s j all = λ i d h. (pos 0, all i d h ∙ sym (zero-*ℤ (pos (2 ^ j))))

pub wasted_once : (k j : ℕ) (s : List ℤ) → IsWasted k s → IsWasted j s → k ≡ j
wasted_once k j s (inl p) (inl q) = omega (arith, p.1, q.1)
wasted_once k j s (inl p) (inr q) = absurd (omega (arith, q.1 (suc j) (silence_divides s (suc j) p.0)))
wasted_once k j s (inr p) (inl q) = absurd (omega (arith, p.1 (suc k) (silence_divides s (suc k) q.0)))
wasted_once k j s (inr p) (inr q) = omega (arith, p.1 j q.0, q.1 k p.0)
