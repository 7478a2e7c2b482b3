-- Bytes that are divided by a multiple of the generator leave a remainder with the same check.
use Rattle.std.proofs.Common.{◌≡◌, ℕ, zero, suc, ◌+◌, ◌-◌, ◌*◌, ◌/◌, ◌%◌, ◌^◌, ◌<◌, ◌≤◌, Bool, true, false, cond, List, [], ◌∷◌, ◌++◌, length, take, get_or, bit_xor, slice_set, refl, sym, ap, ◌∙◌, arith, below_more}
use Rattle.std.specs.Int.Bits.{xor_assoc, xor_self, xor_zero_l, xor_zero_r}
use Rattle.std.proofs.lemmas.List.{take_all, get_or-set_same, get_or-set_other, get_or_past}
use Rattle.flac_bits.specs.Bits.{unsigned, bits_of}
use Rattle.flac_bits.specs.Check.{power, remainder, fed}
use Rattle.flac_bits.specs.inner.Divided.{mixed_at, value_at, lower_32, lower_both, register_16, register_32, Divided}
use Rattle.flac_bits.proofs.Check.{times, fed_is, fed_byte, fed_from_zero, swap, times-xor, times-zero, times-power}
use Rattle.flac_bits.proofs.Words.{length-unsigned, split, unsigned-mod}
use Rattle.flac_bits.proofs.Holding.{length-bits_of}
use Rattle.flac_bits.proofs.Slicing.{times-times, times_is, remainder-xor, run_of, run_at}

-- ---- the check of the first n bytes that a function gives

unfoldable pub check_to : ℕ → ℕ → (ℕ → ℕ) → ℕ → ℕ
check_to w g f zero = 0
check_to w g f (suc n) = bit_xor (times w g 8 (check_to w g f n)) (remainder w g (unsigned 8 (f n)))

zero_byte : (w g : ℕ) → remainder w g (unsigned 8 0) ≡ 0
zero_byte w g = refl

pub check_to-same : (w g : ℕ) (f h : ℕ → ℕ) (n : ℕ) → ((p : ℕ) → p < n → f p ≡ h p) → check_to w g f n ≡ check_to w g h n
unfolding check_to
check_to-same w g f h zero e = refl
check_to-same w g f h (suc n) e =
    ap (λ k. bit_xor (times w g 8 k) (remainder w g (unsigned 8 (f n)))) (check_to-same w g f h n (λ p lt. e p (omega (arith, lt))))
    ∙ ap (λ b. bit_xor (times w g 8 (check_to w g h n)) (remainder w g (unsigned 8 b))) (e n (omega arith))

check_to-xor : (w g : ℕ) (f h : ℕ → ℕ) (n : ℕ) → check_to w g (λ p. bit_xor (f p) (h p)) n ≡ bit_xor (check_to w g f n) (check_to w g h n)
unfolding check_to
check_to-xor w g f h zero = refl
check_to-xor w g f h (suc n) =
    let a = check_to w g f n in
    let b = check_to w g h n in
    ap (λ k. bit_xor (times w g 8 k) (remainder w g (unsigned 8 (bit_xor (f n) (h n))))) (check_to-xor w g f h n)
    ∙ ap (λ k. bit_xor k (remainder w g (unsigned 8 (bit_xor (f n) (h n))))) (times-xor w g 8 a b)
    ∙ ap (bit_xor (bit_xor (times w g 8 a) (times w g 8 b))) (remainder-xor w g 8 (f n) (h n))
    ∙ swap (times w g 8 a) (times w g 8 b) (remainder w g (unsigned 8 (f n))) (remainder w g (unsigned 8 (h n)))

-- a byte that is 0
check_to-zero_byte : (w g : ℕ) (f : ℕ → ℕ) (n : ℕ) → f n ≡ 0 → check_to w g f (suc n) ≡ times w g 8 (check_to w g f n)
unfolding check_to
check_to-zero_byte w g f n e =
    ap (λ b. bit_xor (times w g 8 (check_to w g f n)) (remainder w g (unsigned 8 b))) e ∙ ap (bit_xor (times w g 8 (check_to w g f n))) (zero_byte w g) ∙ xor_zero_r (times w g 8 (check_to w g f n))

check_to-zeros : (w g : ℕ) (f : ℕ → ℕ) (n : ℕ) → ((p : ℕ) → p < n → f p ≡ 0) → check_to w g f n ≡ 0
unfolding check_to
check_to-zeros w g f zero z = refl
check_to-zeros w g f (suc n) z = check_to-zero_byte w g f n (z n (omega arith)) ∙ ap (times w g 8) (check_to-zeros w g f n (λ p lt. z p (omega (arith, lt)))) ∙ times-zero w g 8

-- zeros before the bytes
check_to-front : (w g : ℕ) (f : ℕ → ℕ) (e n : ℕ) → ((p : ℕ) → p < e → f p ≡ 0) → check_to w g f (n + e) ≡ check_to w g (λ p. f (p + e)) n
unfolding check_to
check_to-front w g f e zero z = let k : 0 + e ≡ e = omega arith in ap (check_to w g f) k ∙ check_to-zeros w g f e z
check_to-front w g f e (suc n) z =
    let k : suc n + e ≡ suc (n + e) = omega arith in
    ap (check_to w g f) k ∙ ap (λ c. bit_xor (times w g 8 c) (remainder w g (unsigned 8 (f (n + e))))) (check_to-front w g f e n z)

-- zeros after the bytes
check_to-back : (w g : ℕ) (f : ℕ → ℕ) (m k : ℕ) → ((p : ℕ) → m ≤ p → f p ≡ 0) → check_to w g f (m + k) ≡ times w g (8 * k) (check_to w g f m)
unfolding times
check_to-back w g f m zero z = let j : m + 0 ≡ m = omega arith in ap (check_to w g f) j
check_to-back w g f m (suc k) z =
    let j : m + suc k ≡ suc (m + k) = omega arith in
    let n : 8 * k + 8 ≡ 8 * suc k = omega arith in
    ap (check_to w g f) j ∙ check_to-zero_byte w g f (m + k) (z (m + k) (omega arith)) ∙ ap (times w g 8) (check_to-back w g f m k z)
    ∙ sym (times-times w g (8 * k) 8 (check_to w g f m)) ∙ ap (λ i. times w g i (check_to w g f m)) n

fed_one : (w g c b : ℕ) → fed w g c (unsigned 8 b) ≡ bit_xor (times w g 8 c) (remainder w g (unsigned 8 b))
fed_one w g c b = fed_is w g c (unsigned 8 b) ∙ ap (λ n. bit_xor (times w g n c) (remainder w g (unsigned 8 b))) (length-unsigned 8 b)

-- of a list
check_to-take : (w g : ℕ) (xs : List ℕ) (n : ℕ) → n ≤ length xs → check_to w g (value_at xs) n ≡ fed w g 0 (bits_of (take n xs))
unfolding check_to fed
check_to-take w g xs zero le = refl
check_to-take w g xs (suc n) le =
    let b = get_or xs n 0 in
    let k : n + 1 ≡ suc n = omega arith in
    ap (λ c. bit_xor (times w g 8 c) (remainder w g (unsigned 8 b))) (check_to-take w g xs n (omega (arith, le)))
    ∙ sym (fed_one w g (fed w g 0 (bits_of (take n xs))) b) ∙ sym (fed_byte w g 0 n xs (omega (arith, le))) ∙ ap (λ i. fed w g 0 (bits_of (take i xs))) k

pub check_to-list : (w g n : ℕ) (xs : List ℕ) → length xs ≡ n → check_to w g (value_at xs) n ≡ fed w g 0 (bits_of xs)
check_to-list w g n xs e = check_to-take w g xs n (omega (arith, e)) ∙ ap (λ ys. fed w g 0 (bits_of ys)) (take_all n xs (omega (arith, e)))

whole_check : (w g : ℕ) (xs : List ℕ) → check_to w g (value_at xs) (length xs) ≡ remainder w g (bits_of xs)
whole_check w g xs = check_to-list w g (length xs) xs refl ∙ fed_from_zero w g (bits_of xs)

-- ---- multiples of the generator

-- a register times the sum of the powers with these exponents, in bytes
unfoldable pub multiple : ℕ → ℕ → List ℕ → ℕ → ℕ
multiple w g [] c = 0
multiple w g (e ∷ es) c = bit_xor (times w g (8 * e) c) (multiple w g es c)

multiple-xor : (w g : ℕ) (es : List ℕ) (a b : ℕ) → multiple w g es (bit_xor a b) ≡ bit_xor (multiple w g es a) (multiple w g es b)
unfolding multiple
multiple-xor w g [] a b = refl
multiple-xor w g (e ∷ es) a b =
    ap (λ k. bit_xor k (multiple w g es (bit_xor a b))) (times-xor w g (8 * e) a b) ∙ ap (bit_xor (bit_xor (times w g (8 * e) a) (times w g (8 * e) b))) (multiple-xor w g es a b)
    ∙ swap (times w g (8 * e) a) (times w g (8 * e) b) (multiple w g es a) (multiple w g es b)

multiple-zero : (w g : ℕ) (es : List ℕ) → multiple w g es 0 ≡ 0
unfolding multiple
multiple-zero w g [] = refl
multiple-zero w g (e ∷ es) = ap (λ k. bit_xor k (multiple w g es 0)) (times-zero w g (8 * e)) ∙ ap (bit_xor 0) (multiple-zero w g es)

multiple-times : (w g n : ℕ) (es : List ℕ) (c : ℕ) → multiple w g es (times w g n c) ≡ times w g n (multiple w g es c)
unfolding multiple
multiple-times w g n [] c = sym (times-zero w g n)
multiple-times w g n (e ∷ es) c =
    let k : n + 8 * e ≡ 8 * e + n = omega arith in
    ap (λ j. bit_xor j (multiple w g es (times w g n c))) (sym (times-times w g n (8 * e) c) ∙ ap (λ i. times w g i c) k ∙ times-times w g (8 * e) n c)
    ∙ ap (bit_xor (times w g n (times w g (8 * e) c))) (multiple-times w g n es c) ∙ sym (times-xor w g n (times w g (8 * e) c) (multiple w g es c))

-- what the generator divides has no remainder, times anything
module _ (w g : ℕ) (es : List ℕ) (z : multiple w g es g ≡ 0) where
  multiple-power : (n : ℕ) → multiple w g es (power w g n) ≡ 0
  multiple-power n = ap (multiple w g es) (sym (times-power w g n)) ∙ multiple-times w g n es g ∙ ap (times w g n) z ∙ times-zero w g n

  multiple-bit : (n : ℕ) (b : Bool) → multiple w g es (cond b (power w g n) 0) ≡ 0
  multiple-bit n true = multiple-power n
  multiple-bit n false = multiple-zero w g es

  multiple-remainder : (bs : List Bool) → multiple w g es (remainder w g bs) ≡ 0
  multiple-remainder [] = multiple-zero w g es
  multiple-remainder (b ∷ bs) =
      let r = remainder w g bs in
      multiple-xor w g es (cond b (power w g (length bs)) 0) r ∙ ap (λ k. bit_xor k (multiple w g es r)) (multiple-bit (length bs) b) ∙ ap (bit_xor 0) (multiple-remainder bs)

  multiple-check : (f : ℕ → ℕ) (n : ℕ) → multiple w g es (check_to w g f n) ≡ 0
  unfolding check_to
  multiple-check f zero = multiple-zero w g es
  multiple-check f (suc n) =
      let c = check_to w g f n in
      let r = remainder w g (unsigned 8 (f n)) in
      multiple-xor w g es (times w g 8 c) r ∙ ap (λ k. bit_xor k (multiple w g es r)) (multiple-times w g 8 es c ∙ ap (times w g 8) (multiple-check f n) ∙ times-zero w g 8) ∙ ap (bit_xor 0) (multiple-remainder (unsigned 8 (f n)))

-- ---- the division

-- no exponent is above d
abbrev pub Within : ℕ → List ℕ → Type 0
Within d [] = ℕ
Within d (e ∷ es) = (e ≤ d) × Within d es

-- the sum of what stands these distances after each place
mixed_check : (w g d h : ℕ) (es : List ℕ) (f : ℕ → ℕ) → Within d es → ((k : ℕ) → k < d → f k ≡ 0) → ((k : ℕ) → d + h ≤ k → f k ≡ 0) → check_to w g (λ p. mixed_at es f p) (d + h) ≡ multiple w g es (check_to w g f (d + h))
unfolding multiple
mixed_check w g d h [] f small before after = check_to-zeros w g (λ p. 0) (d + h) (λ p lt. refl)
mixed_check w g d h (e ∷ es) f small before after =
    check_to-xor w g (λ p. f (p + e)) (λ p. mixed_at es f p) (d + h)
    ∙ ap (λ k. bit_xor k (check_to w g (λ p. mixed_at es f p) (d + h))) (sym (check_to-front w g f e (d + h) (λ p lt. before p (omega (arith, lt, small.0)))) ∙ check_to-back w g f (d + h) e after)
    ∙ ap (bit_xor (times w g (8 * e) (check_to w g f (d + h)))) (mixed_check w g d h es f small.1 before after)

-- an exclusive or that is taken back
taken_back : (a b : ℕ) → bit_xor (bit_xor a b) b ≡ a
taken_back a b = xor_assoc a b b ∙ ap (bit_xor a) (xor_self b) ∙ xor_zero_r a

pub divided : (w g d h : ℕ) (es : List ℕ) (x f t : ℕ → ℕ) → multiple w g (d ∷ es) g ≡ 0 → Within d es → ((k : ℕ) → k < d → f k ≡ 0) → ((k : ℕ) → d + h ≤ k → f k ≡ 0)
    → ((p : ℕ) → p < h → bit_xor (f (p + d)) (mixed_at es f p) ≡ x p) → ((j : ℕ) → j < d → t j ≡ bit_xor (x (j + h)) (mixed_at es f (j + h))) → check_to w g x (d + h) ≡ check_to w g t d
divided w g d h es x f t z small before after each rest =
    let n = d + h in
    let m : ℕ → ℕ = λ p. mixed_at (d ∷ es) f p in
    let r : ℕ → ℕ = λ p. bit_xor (x p) (m p) in
    let none : check_to w g m n ≡ 0 = mixed_check w g d h (d ∷ es) f (omega arith, small) before after ∙ multiple-check w g (d ∷ es) z f n in
    let low : (p : ℕ) → p < h → r p ≡ 0 = λ p lt. ap (bit_xor (x p)) (each p lt) ∙ xor_self (x p) in
    let high : (j : ℕ) → j < d → r (j + h) ≡ t j = λ j lt.
    ap (λ k. bit_xor (x (j + h)) (bit_xor k (mixed_at es f (j + h)))) (after (j + h + d) (omega arith)) ∙ ap (bit_xor (x (j + h))) (xor_zero_l (mixed_at es f (j + h))) ∙ sym (rest j lt) in
    sym (xor_zero_r (check_to w g x n)) ∙ ap (bit_xor (check_to w g x n)) (sym none) ∙ sym (check_to-xor w g x m n)
    ∙ check_to-front w g r h d low ∙ check_to-same w g (λ p. r (p + h)) t d high

-- ---- the register

-- the check of the first bytes, moved to the end
front_check : (w g n : ℕ) (cs : List ℕ) → length cs ≤ n → check_to w g (value_at cs) n ≡ times w g (8 * (n - length cs)) (remainder w g (bits_of cs))
front_check w g n cs le =
    let l = length cs in
    let k = n - l in
    let long : l + k ≡ n = omega (arith, le) in
    ap (check_to w g (value_at cs)) (sym long) ∙ check_to-back w g (value_at cs) l k (λ p le. get_or_past cs p 0 le) ∙ ap (times w g (8 * k)) (whole_check w g cs)

-- a register goes into the first bytes
pub registered : (w g c : ℕ) (cs xs : List ℕ) → times w g w c ≡ remainder w g (bits_of cs) → 8 * length cs ≡ w → length cs ≤ length xs
    → fed w g c (bits_of xs) ≡ check_to w g (λ p. bit_xor (value_at cs p) (value_at xs p)) (length xs)
registered w g c cs xs held wide le =
    let n = length xs in
    let k = n - length cs in
    let all : w + 8 * k ≡ length (bits_of xs) = omega (arith, length-bits_of xs, wide, le) in
    let front : check_to w g (value_at cs) n ≡ times w g (length (bits_of xs)) c =
    front_check w g n cs le ∙ ap (times w g (8 * k)) (sym held) ∙ sym (times-times w g w (8 * k) c) ∙ ap (λ i. times w g i c) all in
    fed_is w g c (bits_of xs) ∙ ap (λ k. bit_xor k (remainder w g (bits_of xs))) (sym front)
    ∙ ap (bit_xor (check_to w g (value_at cs) n)) (sym (whole_check w g xs)) ∙ sym (check_to-xor w g (value_at cs) (value_at xs) n)

-- ---- the loop

mixed_same : (d p : ℕ) (es : List ℕ) (f h : ℕ → ℕ) → Within d es → ((k : ℕ) → k ≤ p + d → f k ≡ h k) → mixed_at es f p ≡ mixed_at es h p
mixed_same d p [] f h small same = refl
mixed_same d p (e ∷ es) f h small same = ap (λ k. bit_xor k (mixed_at es f p)) (same (p + e) (omega (arith, small.0))) ∙ ap (bit_xor (h (p + e))) (mixed_same d p es f h small.1 same)

pub divided_more : (d b i v : ℕ) (es : List ℕ) (x : ℕ → ℕ) (q : List ℕ) → b < d → Within b es → i + d < length q → Divided d es x q i → v ≡ bit_xor (x i) (mixed_at es (value_at q) i) → Divided d es x (slice_set q (i + d) v) (i + 1)
divided_more d b i v es x q lower small room so is =
    let new = slice_set q (i + d) v in
    let other : (k : ℕ) → (k ≡ i + d → ⊥) → value_at new k ≡ value_at q k = λ k ne. get_or-set_other q (i + d) k v 0 ne in
    let mixed : (p : ℕ) → p ≤ i → mixed_at es (value_at new) p ≡ mixed_at es (value_at q) p = λ p le. mixed_same b p es (value_at new) (value_at q) small (λ k kle. other k (λ e. omega (arith, e, kle, le, lower))) in
    record {
      before = λ k lt. other k (λ e. omega (arith, e, lt)) ∙ so.before k lt;
      after = λ k le. other k (λ e. omega (arith, e, le)) ∙ so.after k (omega (arith, le));
      each = below_more _ i
          (λ p lt. ap (λ k. bit_xor k (mixed_at es (value_at new) p)) (other (p + d) (λ e. omega (arith, e, lt))) ∙ ap (bit_xor (value_at q (p + d))) (mixed p (omega (arith, lt))) ∙ so.each p lt)
          (ap (λ k. bit_xor k (mixed_at es (value_at new) i)) (get_or-set_same q (i + d) v 0 room ∙ is) ∙ ap (bit_xor (bit_xor (x i) (mixed_at es (value_at q) i))) (mixed i (omega arith)) ∙ taken_back (x i) (mixed_at es (value_at q) i));
    }

-- before the first byte
pub untouched : (d : ℕ) (es : List ℕ) (x : ℕ → ℕ) (q : List ℕ) → ((k : ℕ) → value_at q k ≡ 0) → Divided d es x q 0
untouched d es x q z = record {
  before = λ k lt. z k;
  after = λ k le. z k;
  each = λ p lt. absurd (omega (arith, lt));
}

-- ---- the remainder

pub after_list : (cs xs : List ℕ) (p : ℕ) → length cs ≤ p → bit_xor (value_at cs p) (value_at xs p) ≡ value_at xs p
after_list cs xs p le = ap (λ k. bit_xor k (value_at xs p)) (get_or_past cs p 0 le) ∙ xor_zero_l (value_at xs p)

rest_of : (w g d : ℕ) (es cs xs q rest : List ℕ) → multiple w g (d ∷ es) g ≡ 0 → Within d es → length cs + d ≤ length xs → Divided d es (λ p. bit_xor (value_at cs p) (value_at xs p)) q (length xs - d) → length rest ≡ d
    → ((j : ℕ) → j < d → value_at rest j ≡ bit_xor (value_at xs (j + (length xs - d))) (mixed_at es (value_at q) (j + (length xs - d)))) → check_to w g (λ p. bit_xor (value_at cs p) (value_at xs p)) (length xs) ≡ fed w g 0 (bits_of rest)
rest_of w g d es cs xs q rest z small many so long is =
    let h = length xs - d in
    let x : ℕ → ℕ = λ p. bit_xor (value_at cs p) (value_at xs p) in
    let n : length xs ≡ d + h = omega (arith, many) in
    ap (check_to w g x) n
    ∙ divided w g d h es x (value_at q) (value_at rest) z small so.before so.after so.each
    (λ j lt. is j lt ∙ ap (λ k. bit_xor k (mixed_at es (value_at q) (j + h))) (sym (after_list cs xs (j + h) (omega (arith, many)))))
    ∙ check_to-list w g d rest long

-- ---- the CRC-32

pub first_of_four : (c : ℕ) (xs : List ℕ) (p : ℕ) → p < 4 → bit_xor (value_at (register_32 c) p) (value_at xs p)
    ≡ value_at (bit_xor (c / 16777216) (get_or xs 0 0) ∷ bit_xor (c / 65536 % 256) (get_or xs 1 0) ∷ bit_xor (c / 256 % 256) (get_or xs 2 0) ∷ bit_xor (c % 256) (get_or xs 3 0) ∷ []) p
first_of_four c xs zero lt = refl
first_of_four c xs (suc zero) lt = refl
first_of_four c xs (suc (suc zero)) lt = refl
first_of_four c xs (suc (suc (suc zero))) lt = refl
first_of_four c xs (suc (suc (suc (suc p)))) lt = absurd (omega (arith, lt))

pub after_register : (c : ℕ) (xs : List ℕ) (p : ℕ) → 4 ≤ p → bit_xor (value_at (register_32 c) p) (value_at xs p) ≡ value_at xs p
after_register c xs p le = after_list (register_32 c) xs p le

multiple_32 : multiple 32 79764919 (300 ∷ lower_32) 79764919 ≡ 0
unfolding multiple times
multiple_32 = refl

register_is : (c : ℕ) → c < 2 ^ 32 → times 32 79764919 32 c ≡ remainder 32 79764919 (bits_of (register_32 c))
register_is c fits = times_is 32 79764919 32 c (omega arith) fits
    ∙ ap (remainder 32 79764919) (split 8 24 c ∙ ap (λ bs. unsigned 8 (c / 16777216) ++ bs) (split 8 16 c ∙ ap (λ bs. bs ++ unsigned 16 c) (sym (unsigned-mod 8 (c / 65536))) ∙ ap (λ bs. unsigned 8 (c / 65536 % 256) ++ bs) (split 8 8 c ∙ ap (λ bs. bs ++ unsigned 8 c) (sym (unsigned-mod 8 (c / 256))) ∙ ap (λ bs. unsigned 8 (c / 256 % 256) ++ bs) (sym (unsigned-mod 8 c)))))

pub crc32_of_rest : (c : ℕ) (xs q rest : List ℕ) → c < 2 ^ 32 → 304 ≤ length xs → Divided 300 lower_32 (λ p. bit_xor (value_at (register_32 c) p) (value_at xs p)) q (length xs - 300) → length rest ≡ 300
    → ((j : ℕ) → j < 300 → value_at rest j ≡ bit_xor (value_at xs (j + (length xs - 300))) (mixed_at lower_32 (value_at q) (j + (length xs - 300)))) → fed 32 79764919 c (bits_of xs) ≡ fed 32 79764919 0 (bits_of rest)
crc32_of_rest c xs q rest fits many so long is =
    registered 32 79764919 c (register_32 c) xs (register_is c fits) refl (omega (arith, many))
    ∙ rest_of 32 79764919 300 lower_32 (register_32 c) xs q rest multiple_32 (omega arith, (omega arith, (omega arith, (omega arith, 0)))) (omega (arith, many)) so long is

-- ---- both checks

pub first_of_two : (cs xs : List ℕ) (p : ℕ) → p < 2 → bit_xor (value_at cs p) (value_at xs p) ≡ value_at (bit_xor (get_or cs 0 0) (get_or xs 0 0) ∷ bit_xor (get_or cs 1 0) (get_or xs 1 0) ∷ []) p
first_of_two cs xs zero lt = refl
first_of_two cs xs (suc zero) lt = refl
first_of_two cs xs (suc (suc p)) lt = absurd (omega (arith, lt))

multiple_8 : multiple 8 7 (285 ∷ lower_both) 7 ≡ 0
unfolding multiple times
multiple_8 = refl

multiple_16 : multiple 16 32773 (285 ∷ lower_both) 32773 ≡ 0
unfolding multiple times
multiple_16 = refl

register_16_is : (c : ℕ) → c < 2 ^ 16 → times 16 32773 16 c ≡ remainder 16 32773 (bits_of (register_16 c))
register_16_is c fits = times_is 16 32773 16 c (omega arith) fits ∙ ap (remainder 16 32773) (split 8 8 c ∙ ap (λ bs. unsigned 8 (c / 256) ++ bs) (sym (unsigned-mod 8 c)))

-- so the quotient and the remainder of the bytes with a register in them stand to one another
abbrev pub LeavesRest : List ℕ → List ℕ → List ℕ → List ℕ → Type 0
LeavesRest cs xs q rest = Divided 285 lower_both (λ p. bit_xor (value_at cs p) (value_at xs p)) q (length xs - 285)
    × ((j : ℕ) → j < 285 → value_at rest j ≡ bit_xor (value_at xs (j + (length xs - 285))) (mixed_at lower_both (value_at q) (j + (length xs - 285))))

pub crc16_of_rest : (c : ℕ) (xs q rest : List ℕ) → c < 2 ^ 16 → 287 ≤ length xs → LeavesRest (register_16 c) xs q rest → length rest ≡ 285 → fed 16 32773 c (bits_of xs) ≡ fed 16 32773 0 (bits_of rest)
crc16_of_rest c xs q rest fits many so long =
    registered 16 32773 c (register_16 c) xs (register_16_is c fits) refl (omega (arith, many))
    ∙ rest_of 16 32773 285 lower_both (register_16 c) xs q rest multiple_16 (omega arith, (omega arith, (omega arith, 0))) (omega (arith, many)) so.0 long so.1

-- 127 zeros, as bits or as bytes, leave a CRC-8 as it was
period_table : run_of (λ i. times 8 7 127 i) 0 256 ≡ run_of (λ i. i) 0 256
unfolding run_of times
period_table = refl

period_once : (y : ℕ) → y < 256 → times 8 7 127 y ≡ y
period_once y lt =
    let k : 0 + y ≡ y = omega arith in
    ap (times 8 7 127) (sym k) ∙ sym (run_at (λ i. times 8 7 127 i) 0 256 y lt) ∙ ap (λ xs. get_or xs y 0) period_table ∙ run_at (λ i. i) 0 256 y lt ∙ k

period : (j y : ℕ) → y < 256 → times 8 7 (127 * j) y ≡ y
unfolding times
period zero y lt = refl
period (suc j) y lt =
    let k : 127 * suc j ≡ 127 + 127 * j = omega arith in
    ap (λ n. times 8 7 n y) k ∙ times-times 8 7 127 (127 * j) y ∙ ap (times 8 7 (127 * j)) (period_once y lt) ∙ period j y lt

pub crc8_of_rest : (c own j : ℕ) (cs xs q rest : List ℕ) → own ≡ fed 8 7 c (bits_of cs) → own < 256 → length cs ≡ 2 → length xs ≡ 127 * j + 2 → 287 ≤ length xs → LeavesRest cs xs q rest → length rest ≡ 285
    → bit_xor own (fed 8 7 0 (bits_of rest)) ≡ fed 8 7 c (bits_of xs)
crc8_of_rest c own j cs xs q rest is small two whole many so long =
    let n = length xs in
    let k = n - length cs in
    let s = remainder 8 7 (bits_of xs) in
    let a = times 8 7 (length (bits_of xs)) c in
    let b = check_to 8 7 (value_at cs) n in
    let bits : length (bits_of cs) ≡ 16 = omega (arith, length-bits_of cs, two) in
    let all : 16 + 8 * k ≡ length (bits_of xs) = omega (arith, length-bits_of xs, two, many) in
    let zeros : 8 * k ≡ 127 * (8 * j) = omega (arith, two, whole) in
    let kept : times 8 7 (8 * k) own ≡ own = ap (λ i. times 8 7 i own) zeros ∙ period (8 * j) own small in
    let parts : own ≡ bit_xor (times 8 7 16 c) (remainder 8 7 (bits_of cs)) = is ∙ fed_is 8 7 c (bits_of cs) ∙ ap (λ i. bit_xor (times 8 7 i c) (remainder 8 7 (bits_of cs))) bits in
    let own_is : own ≡ bit_xor a b =
    sym kept ∙ ap (times 8 7 (8 * k)) parts ∙ times-xor 8 7 (8 * k) (times 8 7 16 c) (remainder 8 7 (bits_of cs))
    ∙ ap (λ i. bit_xor i (times 8 7 (8 * k) (remainder 8 7 (bits_of cs)))) (sym (times-times 8 7 16 (8 * k) c) ∙ ap (λ i. times 8 7 i c) all) ∙ ap (bit_xor a) (sym (front_check 8 7 n cs (omega (arith, two, many)))) in
    let rest_is : fed 8 7 0 (bits_of rest) ≡ bit_xor b s =
    sym (rest_of 8 7 285 lower_both cs xs q rest multiple_8 (omega arith, (omega arith, (omega arith, 0))) (omega (arith, two, many)) so.0 long so.1) ∙ check_to-xor 8 7 (value_at cs) (value_at xs) n ∙ ap (bit_xor b) (whole_check 8 7 xs) in
    ap (λ i. bit_xor i (fed 8 7 0 (bits_of rest))) own_is ∙ ap (bit_xor (bit_xor a b)) rest_is ∙ xor_assoc a b (bit_xor b s)
    ∙ ap (bit_xor a) (sym (xor_assoc b b s) ∙ ap (λ i. bit_xor i s) (xor_self b) ∙ xor_zero_l s) ∙ sym (fed_is 8 7 c (bits_of xs))
