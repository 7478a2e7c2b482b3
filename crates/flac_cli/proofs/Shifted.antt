-- Samples of a file whose lowest bits are dropped, as numbers.
use Rattle.std.proofs.Common.{◌≡◌, ◌≤◌, ◌<◌, ◌+◌, ◌-◌, ◌*◌, ◌/◌, ◌%◌, ◌^◌, ℕ, zero, suc, ℤ, pos, negsuc, cond, List, [], ◌∷◌, ◌++◌, take, drop, length, map, get_or, slice_set, SFits, w32, refl, ap, sym, ◌∙◌, subst, inl, inr, arith}
use Rattle.std.specs.Int.{int_shr}
use Rattle.std.proofs.lemmas.Bool.{cases_lt, le-ltb, lt-ltb}
use Rattle.std.proofs.lemmas.Int.{ints}
use Rattle.std.proofs.lemmas.List.{drop-drop}
use Rattle.std.proofs.lemmas.Nat.{div-add-mod', pow_pos, pow-add, shr_high, shr_le}
use Rattle.std.proofs.Math.Nat.{add-mul, mod-eq_of_lt, mod-lt, lt_of_mul-lt-mul_right, pow-le-pow_right, pow-succ'}
use Rattle.std.proofs.Math.Seq.{take-append_seam, drop-append_seam}
use Rattle.byteorder.specs.Endian.{twos_complement, little_bytes, little_number}
use Rattle.byteorder.specs.Numbers.{length-bytes_low_first, little_from-take}
use Rattle.flac_wave.specs.Shift.{lowered, lowered_number}
use Rattle.flac_cli.specs.inner.HeldWaves.{shifted}

positive : (n x : ℕ) → x < 2 ^ (8 * n - 1) → twos_complement n x ≡ pos x
positive n x lt = rw (lt-ltb x (2 ^ (8 * n - 1)) lt) refl

negative : (n x : ℕ) → 2 ^ (8 * n - 1) ≤ x → x < 2 ^ (8 * n) → twos_complement n x ≡ negsuc (2 ^ (8 * n) - 1 - x)
negative n x le lt = rw (le-ltb x (2 ^ (8 * n - 1)) le) (omega (arith, ints))

-- a quotient by S = 2^k of a number below D S
pub quotient_small : (n k D : ℕ) → n < D * 2 ^ k → n / 2 ^ k < D
quotient_small n k D few =
    let d = div-add-mod' n (2 ^ k) in
    lt_of_mul-lt-mul_right (2 ^ k) (omega (arith, d, few))

quotient_large : (n k D : ℕ) → D * 2 ^ k ≤ n → D ≤ n / 2 ^ k
quotient_large n k D many = elim (cases_lt (n / 2 ^ k) D) [
  | inr h ↦ h
  | inl lt ↦
      let d = div-add-mod' n (2 ^ k) in
      let r = mod-lt n {m = 2 ^ k} (pow_pos k) in
      let e = D - 1 - n / 2 ^ k in
      let s : D ≡ (e + n / 2 ^ k) + 1 = omega (arith, lt) in
      let t : D * 2 ^ k ≡ (e + n / 2 ^ k) * 2 ^ k + 1 * 2 ^ k = ap (λ x. x * 2 ^ k) s ∙ add-mul (e + n / 2 ^ k) 1 (2 ^ k) in
      let u : (e + n / 2 ^ k) * 2 ^ k ≡ e * 2 ^ k + n / 2 ^ k * 2 ^ k = add-mul e (n / 2 ^ k) (2 ^ k) in
      absurd (omega (arith, d, r, t, u, many))
]

-- of the complement it is the complement
quotient_over : (n k D : ℕ) → n < D * 2 ^ k → (D * 2 ^ k - 1 - n) / 2 ^ k ≡ D - 1 - n / 2 ^ k
quotient_over n k D few =
    let q = n / 2 ^ k in
    let d = div-add-mod' n (2 ^ k) in
    let r = mod-lt n {m = 2 ^ k} (pow_pos k) in
    let small = quotient_small n k D few in
    let e = D - 1 - q in
    let s : D ≡ (e + q) + 1 = omega (arith, small) in
    let t : D * 2 ^ k ≡ (e + q) * 2 ^ k + 1 * 2 ^ k = ap (λ x. x * 2 ^ k) s ∙ add-mul (e + q) 1 (2 ^ k) in
    let u : (e + q) * 2 ^ k ≡ e * 2 ^ k + q * 2 ^ k = add-mul e q (2 ^ k) in
    let f : D * 2 ^ k - 1 - n ≡ e * 2 ^ k + (2 ^ k - 1 - n % 2 ^ k) = omega (arith, d, r, t, u) in
    ap (λ x. x / 2 ^ k) f ∙ shr_high e k (2 ^ k - 1 - n % 2 ^ k) (omega (arith, r))

low_is : (q W : ℕ) → q < W → (q % W + 0) % W ≡ q
low_is q W few =
    let a : q % W ≡ q = mod-eq_of_lt few in
    let b : q % W + 0 ≡ q = omega (arith, a) in
    ap (λ x. x % W) b ∙ a

high_is : (q W E : ℕ) → q < E → E ≤ W → (q % W + (W - E)) % W ≡ W - E + q
high_is q W E few within =
    let a : q % W ≡ q = mod-eq_of_lt (omega (arith, few, within)) in
    let b : q % W + (W - E) ≡ W - E + q = omega (arith, a) in
    ap (λ x. x % W) b ∙ mod-eq_of_lt (omega (arith, few, within))

twice : (n : ℕ) → 0 < n → 2 ^ n ≡ 2 * 2 ^ (n - 1)
twice n some = let whole : n ≡ suc (n - 1) = omega (arith, some) in ap (λ (e : ℕ). 2 ^ e) whole ∙ pow-succ' 2 (n - 1)

-- A number of `wide` bytes in two's complement, of which all but the highest `depth` bits are dropped, is the lowered one.
pub shifted_number : (wide depth width n : ℕ) → n < 2 ^ (8 * wide) → 0 < depth → depth < 8 * wide → depth ≤ 8 * width
    → int_shr (twos_complement wide n) (8 * wide - depth) ≡ twos_complement width (lowered_number wide width (8 * wide - depth) n)
shifted_number wide depth width n few some less room =
    let k = 8 * wide - depth in
    let all : 2 ^ depth * 2 ^ k ≡ 2 ^ (8 * wide) = sym (pow-add 2 depth k) ∙ ap (λ e. 2 ^ e) (omega (arith, less)) in
    let half : 2 ^ (depth - 1) * 2 ^ k ≡ 2 ^ (8 * wide - 1) = sym (pow-add 2 (depth - 1) k) ∙ ap (λ e. 2 ^ e) (omega (arith, less, some)) in
    let two = twice depth some in
    let two_width = twice (8 * width) (omega (arith, some, room)) in
    let within : 2 ^ depth ≤ 2 ^ (8 * width) = pow-le-pow_right (omega arith) room in
    let q = n / 2 ^ k in
    let rest : 8 * wide - k ≡ depth = omega (arith, less) in
    elim (cases_lt n (2 ^ (8 * wide - 1))) [
      | inl low ↦
          let small : q < 2 ^ (depth - 1) = quotient_small n k (2 ^ (depth - 1)) (subst (λ m. n < m) (sym half) low) in
          let is : lowered_number wide width k n ≡ q =
          ap (λ b. (q % 2 ^ (8 * width) + cond b 0 (2 ^ (8 * width) - 2 ^ (8 * wide - k))) % 2 ^ (8 * width)) (lt-ltb n (2 ^ (8 * wide - 1)) low)
          ∙ low_is q (2 ^ (8 * width)) (omega (arith, small, two, within)) in
          ap (λ z. int_shr z k) (positive wide n low) ∙ sym (ap (twos_complement width) is ∙ positive width q (omega (arith, small, two, two_width, within)))
      | inr high ↦
          let small : q < 2 ^ depth = quotient_small n k (2 ^ depth) (subst (λ m. n < m) (sym all) few) in
          let large : 2 ^ (depth - 1) ≤ q = quotient_large n k (2 ^ (depth - 1)) (subst (λ m. m ≤ n) (sym half) high) in
          let m = 2 ^ (8 * width) - 2 ^ depth + q in
          let is : lowered_number wide width k n ≡ m =
          ap (λ b. (q % 2 ^ (8 * width) + cond b 0 (2 ^ (8 * width) - 2 ^ (8 * wide - k))) % 2 ^ (8 * width)) (le-ltb n (2 ^ (8 * wide - 1)) high)
          ∙ (ap (λ e. (q % 2 ^ (8 * width) + (2 ^ (8 * width) - 2 ^ e)) % 2 ^ (8 * width)) rest ∙ high_is q (2 ^ (8 * width)) (2 ^ depth) small within) in
          let same : (2 ^ (8 * wide) - 1 - n) / 2 ^ k ≡ 2 ^ (8 * width) - 1 - m =
          ap (λ t. (t - 1 - n) / 2 ^ k) (sym all) ∙ (quotient_over n k (2 ^ depth) (subst (λ t. n < t) (sym all) few) ∙ omega (arith, small, within)) in
          ap (λ z. int_shr z k) (negative wide n high few)
          ∙ (ap negsuc same ∙ sym (ap (twos_complement width) is ∙ negative width m (omega (arith, large, two, two_width, within)) (omega (arith, small, within))))
    ]

-- one of the samples of a stream
pub lowered_at : (wide width shift k n : ℕ) (bytes : List ℕ) → k < n
    → take width (drop (k * width) (lowered wide width shift n bytes)) ≡ little_bytes width (lowered_number wide width shift (little_number wide (take wide (drop (k * wide) bytes))))
lowered_at wide width shift k zero bytes lt = absurd (omega (arith, lt))
lowered_at wide width shift zero (suc n) bytes lt =
    let x = lowered_number wide width shift (little_number wide bytes) in
    let rest = lowered wide width shift n (drop wide bytes) in
    let none : zero * width ≡ 0 = omega arith in
    let none_wide : zero * wide ≡ 0 = omega arith in
    ap (λ j. take width (drop j (little_bytes width x ++ rest))) none
    ∙ (ap (λ w. take w (little_bytes width x ++ rest)) (sym (length-bytes_low_first 0 width x)) ∙ (take-append_seam (little_bytes width x) rest
    ∙ ap (λ y. little_bytes width (lowered_number wide width shift y)) (sym (ap (λ j. little_number wide (take wide (drop j bytes))) none_wide ∙ little_from-take 0 wide wide bytes (omega arith)))))
lowered_at wide width shift (suc k) (suc n) bytes lt =
    let x = lowered_number wide width shift (little_number wide bytes) in
    let rest = lowered wide width shift n (drop wide bytes) in
    let next : suc k * width ≡ width + k * width = omega arith in
    let next_wide : suc k * wide ≡ wide + k * wide = omega arith in
    let after : drop width (little_bytes width x ++ rest) ≡ rest = ap (λ j. drop j (little_bytes width x ++ rest)) (sym (length-bytes_low_first 0 width x)) ∙ drop-append_seam (little_bytes width x) rest in
    ap (λ j. take width (drop j (little_bytes width x ++ rest))) next
    ∙ (ap (take width) (sym (drop-drop (k * width) width (little_bytes width x ++ rest))) ∙ (ap (λ l. take width (drop (k * width) l)) after
    ∙ (lowered_at wide width shift k n (drop wide bytes) (omega (arith, lt))
    ∙ ap (λ l. little_bytes width (lowered_number wide width shift (little_number wide (take wide l)))) (drop-drop (k * wide) wide bytes ∙ ap (λ j. drop j bytes) (sym next_wide)))))

-- ---- in place

pub shift_fits : (z : ℤ) (k : ℕ) → SFits w32 z → SFits w32 (int_shr z k)
shift_fits (pos a) k fits = let h = shr_le a k in omega (arith, ints, fits, h)
shift_fits (negsuc a) k fits = let h = shr_le a k in omega (arith, ints, fits, h)

-- one value more is changed
changed_next : {A : Type 0} (f : A → A) (d : A) (xs : List A) (i : ℕ) → i < length xs
    → slice_set (map f (take i xs) ++ drop i xs) i (f (get_or (map f (take i xs) ++ drop i xs) i d)) ≡ map f (take (suc i) xs) ++ drop (suc i) xs
changed_next f d [] i within = absurd (omega (arith, within))
changed_next f d (x ∷ xs) zero within = refl
changed_next f d (x ∷ xs) (suc i) within = ap (λ l. f x ∷ l) (changed_next f d xs i (omega (arith, within)))

pub shift_next : (k : ℕ) (xs : List ℤ) (i : ℕ) → i < length xs
    → slice_set (shifted k (take i xs) ++ drop i xs) i (int_shr (get_or (shifted k (take i xs) ++ drop i xs) i (pos 0)) k) ≡ shifted k (take (suc i) xs) ++ drop (suc i) xs
shift_next k xs i within = changed_next (λ z. int_shr z k) (pos 0) xs i within

pub shift_list_next : (k : ℕ) (xs : List (List ℤ)) (i : ℕ) → i < length xs
    → slice_set (map (shifted k) (take i xs) ++ drop i xs) i (shifted k (get_or (map (shifted k) (take i xs) ++ drop i xs) i [])) ≡ map (shifted k) (take (suc i) xs) ++ drop (suc i) xs
shift_list_next k xs i within = changed_next (shifted k) [] xs i within
