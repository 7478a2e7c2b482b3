-- The check of bytes by tables: a register of the check is fed as the first of the bytes are.
use Rattle.std.proofs.Common.{◌≡◌, ℕ, zero, suc, ◌+◌, ◌-◌, ◌*◌, ◌/◌, ◌%◌, ◌^◌, ◌<◌, ◌≤◌, Bool, true, false, cond, nat_eq, List, [], ◌∷◌, ◌++◌, length, map, get_or, bit_and, bit_xor, refl, sym, ap, ◌∙◌, arith}
use Rattle.std.specs.Int.{bit_at}
use Rattle.std.specs.Int.Bits.{xor_assoc, xor_self, xor_zero_l, xor_zero_r}
use Rattle.std.proofs.lemmas.Nat.{xor_comm, xor_block, shr_split, pow-add, pow_pos, pow_below, shr_below}
use Rattle.std.proofs.lemmas.Nat.Bits.{bit_at-lt, bit_at_xor, bit_at-pow_same, shr_and_one}
use Rattle.std.proofs.lemmas.List.{length-append}
use Rattle.std.proofs.Math.Nat.{pow-suc, mod-eq_of_lt, mod-lt, mod_self}
use Rattle.std.proofs.Math.Pow.{pow_mono}
use Rattle.flac_bits.specs.Bits.{unsigned, bits_of}
use Rattle.flac_bits.specs.Check.{shifted, power, remainder, fed}
use Rattle.flac_bits.proofs.Check.{times, fed_is, swap, times-xor, times-zero, times-power}
use Rattle.flac_bits.proofs.Words.{length-unsigned, unsigned-mod}
use Rattle.flac_bits.proofs.Holding.{length-bits_of, bits_of-append}

-- ---- numbers

bit_top : (c n d : ℕ) → c / 2 ^ n ≡ d → d < 2 → bit_at c n ≡ d
bit_top c n zero e lt = sym (shr_and_one c n) ∙ ap (λ y. bit_and y 1) e
bit_top c n (suc zero) e lt = sym (shr_and_one c n) ∙ ap (λ y. bit_and y 1) e
bit_top c n (suc (suc d)) e lt = absurd (omega (arith, lt))

bit_at_below : (x k : ℕ) → x < 2 ^ k → bit_at x k ≡ 0
bit_at_below x k lt =
    let k' : 0 + k ≡ k = omega arith in
    let none : x / 2 ^ k < 2 ^ 0 = shr_below x 0 k (rw k' lt) in
    bit_top x k 0 (omega (arith, none)) (omega arith)

-- a number is its high part and its low part, one apart from the other
pub whole_xor : (k c : ℕ) → c ≡ bit_xor (c / 2 ^ k * 2 ^ k) (c % 2 ^ k)
whole_xor k c =
    let h = c / 2 ^ k in
    let r = c % 2 ^ k in
    let pos = pow_pos k in
    let block : bit_xor (h * 2 ^ k + 0) (0 * 2 ^ k + r) ≡ bit_xor h 0 * 2 ^ k + bit_xor 0 r = xor_block k h 0 0 r pos (mod-lt c pos) in
    let left : h * 2 ^ k + 0 ≡ h * 2 ^ k = omega arith in
    let right : 0 * 2 ^ k + r ≡ r = omega arith in
    let sum : c ≡ h * 2 ^ k + r = sym (shr_split c k) in
    sum ∙ ap (λ x. x * 2 ^ k + r) (sym (xor_zero_r h)) ∙ ap (λ x. bit_xor h 0 * 2 ^ k + x) (sym (xor_zero_l r)) ∙ sym block ∙ ap (λ x. bit_xor x (0 * 2 ^ k + r)) left ∙ ap (λ x. bit_xor (h * 2 ^ k) x) right

-- ---- shifts

pub times-times : (w g a b c : ℕ) → times w g (a + b) c ≡ times w g b (times w g a c)
unfolding times
times-times w g zero b c = let e : 0 + b ≡ b = omega arith in rw e refl
times-times w g (suc a) b c = let e : suc a + b ≡ suc (a + b) = omega arith in rw e (times-times w g a b (shifted w g c))

power-more : (w g k n : ℕ) → times w g n (power w g k) ≡ power w g (k + n)
power-more w g k n = ap (times w g n) (sym (times-power w g k)) ∙ sym (times-times w g k n g) ∙ times-power w g (k + n)

cond-more : (w g k n : ℕ) (b : Bool) → times w g n (cond b (power w g k) 0) ≡ cond b (power w g (k + n)) 0
cond-more w g k n true = power-more w g k n
cond-more w g k n false = times-zero w g n

-- the remainder of two lists of bits, joined
pub remainder-append : (w g : ℕ) (a b : List Bool) → remainder w g (a ++ b) ≡ bit_xor (times w g (length b) (remainder w g a)) (remainder w g b)
remainder-append w g [] b = sym (ap (λ k. bit_xor k (remainder w g b)) (times-zero w g (length b)) ∙ xor_zero_l (remainder w g b))
remainder-append w g (x ∷ a) b =
    let n = length b in
    let r = remainder w g b in
    ap (λ k. bit_xor (cond x (power w g k) 0) (remainder w g (a ++ b))) (length-append a b) ∙ ap (λ k. bit_xor (cond x (power w g (length a + n)) 0) k) (remainder-append w g a b)
    ∙ sym (xor_assoc (cond x (power w g (length a + n)) 0) (times w g n (remainder w g a)) r)
    ∙ ap (λ k. bit_xor (bit_xor k (times w g n (remainder w g a))) r) (sym (cond-more w g (length a) n x))
    ∙ ap (λ k. bit_xor k r) (sym (times-xor w g n (cond x (power w g (length a)) 0) (remainder w g a)))

-- a shift that pushes no bit out
pub times_small : (w g k x : ℕ) → k ≤ w → x < 2 ^ (w - k) → times w g k x ≡ x * 2 ^ k
unfolding times
times_small w g zero x le lt = omega arith
times_small w g (suc k) x le lt =
    let e : w - k ≡ suc (w - suc k) = omega (arith, le) in
    let p : 2 ^ (w - k) ≡ 2 * 2 ^ (w - suc k) = rw (e, pow-suc) (omega arith) in
    let twice : 2 * x < 2 ^ (w - k) = omega (arith, lt, p) in
    let top : 2 ^ (w - k) ≤ 2 ^ w = pow_mono {i = w - k} {j = w} (omega arith) in
    let half : 2 ^ (w - suc k) ≤ 2 ^ (w - 1) = pow_mono {i = w - suc k} {j = w - 1} (omega arith) in
    let clear : bit_at x (w - 1) ≡ 0 = bit_at_below x (w - 1) (omega (arith, lt, half)) in
    let step : shifted w g x ≡ 2 * x = rw clear (mod-eq_of_lt (omega (arith, twice, top))) in
    ap (times w g k) step ∙ times_small w g k (2 * x) (omega (arith, le)) twice ∙ rw pow-suc (grind arith)

-- the top bit, pushed out
times_top : (w g : ℕ) → 0 < w → shifted w g (2 ^ (w - 1)) ≡ g
times_top w g pos =
    let e : w ≡ suc (w - 1) = omega (arith, pos) in
    let none : 2 * 2 ^ (w - 1) % 2 ^ w ≡ 0 = let p : 2 ^ w ≡ 2 * 2 ^ (w - 1) = ap (λ k. 2 ^ k) e ∙ rw pow-suc (omega arith) in rw (← p) (mod_self (2 ^ w)) in
    rw (bit_at-pow_same (w - 1), none) (xor_zero_l g)

times_bit : (w g n : ℕ) → n < w → times w g w (2 ^ n) ≡ power w g n
unfolding times
times_bit w g n lt =
    let k = w - 1 - n in
    let e : w ≡ k + suc n = omega (arith, lt) in
    let up : times w g k (2 ^ n) ≡ 2 ^ (w - 1) =
    let less : 2 ^ n < 2 ^ (w - k) = pow_below n (w - k) (omega (arith, lt)) in
    let sum : n + k ≡ w - 1 = omega (arith, lt) in
    times_small w g k (2 ^ n) (omega arith) less ∙ sym (pow-add 2 n k) ∙ ap (λ i. 2 ^ i) sum in
    ap (λ i. times w g i (2 ^ n)) e ∙ times-times w g k (suc n) (2 ^ n) ∙ ap (times w g (suc n)) up ∙ ap (times w g n) (times_top w g (omega (arith, lt))) ∙ times-power w g n

bit_times : (w g n d : ℕ) → n < w → d < 2 → times w g w (d * 2 ^ n) ≡ cond (nat_eq d 1) (power w g n) 0
bit_times w g n zero lt fits = let z : 0 * 2 ^ n ≡ 0 = omega arith in ap (times w g w) z ∙ times-zero w g w
bit_times w g n (suc zero) lt fits = let z : 1 * 2 ^ n ≡ 2 ^ n = omega arith in ap (times w g w) z ∙ times_bit w g n lt
bit_times w g n (suc (suc d)) lt fits = absurd (omega (arith, fits))

-- a register of w bits, pushed out whole, is a front of the bits
pub times_is : (w g n c : ℕ) → n ≤ w → c < 2 ^ n → times w g w c ≡ remainder w g (unsigned n c)
times_is w g zero c le lt = let z : c ≡ 0 = omega (arith, lt) in ap (times w g w) z ∙ times-zero w g w
times_is w g (suc n) c le lt =
    let d = c / 2 ^ n in
    let r = c % 2 ^ n in
    let pos = pow_pos n in
    let small : r < 2 ^ n = mod-lt c pos in
    let p : 2 ^ suc n ≡ 2 * 2 ^ n = rw pow-suc (omega arith) in
    let one : d < 2 = shr_below c 1 n (let e : 1 + n ≡ suc n = omega arith in rw e lt) in
    let bit : bit_at c n ≡ d = bit_top c n d refl one in
    let parts : c ≡ bit_xor (d * 2 ^ n) r = whole_xor n c in
    ap (times w g w) parts ∙ times-xor w g w (d * 2 ^ n) r ∙ ap (λ k. bit_xor k (times w g w r)) (bit_times w g n d (omega (arith, le)) one)
    ∙ ap (λ k. bit_xor (cond (nat_eq d 1) (power w g n) 0) k) (times_is w g n r (omega (arith, le)) small)
    ∙ rw (bit, length-unsigned n c, unsigned-mod n c) refl

-- ---- tables

-- f of n numbers from a first one on
unfoldable pub run_of : (ℕ → ℕ) → ℕ → ℕ → List ℕ
run_of f s zero = []
run_of f s (suc n) = f s ∷ run_of f (s + 1) n

pub run_at : (f : ℕ → ℕ) (s n i : ℕ) → i < n → get_or (run_of f s n) i 0 ≡ f (s + i)
unfolding run_of
run_at f s zero i lt = absurd (omega (arith, lt))
run_at f s (suc n) zero lt = ap f (omega arith)
run_at f s (suc n) (suc i) lt = run_at f (s + 1) n i (omega (arith, lt)) ∙ ap f (omega arith)

run_long : (f : ℕ → ℕ) (s n : ℕ) → length (run_of f s n) ≡ n
unfolding run_of
run_long f s zero = refl
run_long f s (suc n) = omega (arith, run_long f (s + 1) n)

-- the remainder of a byte with j bytes after it
abbrev pub entry : ℕ → ℕ → ℕ → ℕ → ℕ
entry w g j i = times w g (8 * j) (remainder w g (unsigned 8 i))

unfoldable pub entries : ℕ → ℕ → List ℕ
entries w g = run_of (λ i. remainder w g (unsigned 8 i)) 0 256

-- with one more byte after them
unfoldable pub moved : ℕ → ℕ → List ℕ → List ℕ
moved w g [] = []
moved w g (x ∷ xs) = times w g 8 x ∷ moved w g xs

moved_at : (w g : ℕ) (xs : List ℕ) (i : ℕ) → i < length xs → get_or (moved w g xs) i 0 ≡ times w g 8 (get_or xs i 0)
unfolding moved
moved_at w g [] i lt = absurd (omega (arith, lt))
moved_at w g (x ∷ xs) zero lt = refl
moved_at w g (x ∷ xs) (suc i) lt = moved_at w g xs i (omega (arith, lt))

pub table_start : (w g : ℕ) (t : List ℕ) → t ≡ entries w g → (i : ℕ) → i < 256 → get_or t i 0 ≡ entry w g 0 i
unfolding times entries
table_start w g t e i lt = ap (λ xs. get_or xs i 0) e ∙ run_at (λ i. remainder w g (unsigned 8 i)) 0 256 i lt ∙ (let k : 0 + i ≡ i = omega arith in ap (λ i. remainder w g (unsigned 8 i)) k)

pub table_next : (w g j : ℕ) (t u : List ℕ) → u ≡ moved w g t → ((i : ℕ) → i < 256 → get_or t i 0 ≡ entry w g j i) → length t ≡ 256 → (i : ℕ) → i < 256 → get_or u i 0 ≡ entry w g (j + 1) i
table_next w g j t u e is long i lt =
    let k : 8 * (j + 1) ≡ 8 * j + 8 = omega arith in
    ap (λ xs. get_or xs i 0) e ∙ moved_at w g t i (omega (arith, lt, long)) ∙ ap (times w g 8) (is i lt) ∙ sym (times-times w g (8 * j) 8 (remainder w g (unsigned 8 i))) ∙ ap (λ n. times w g n (remainder w g (unsigned 8 i))) (sym k)

-- a part of each entry
pub map_at : (f : ℕ → ℕ) (xs : List ℕ) (i : ℕ) → f 0 ≡ 0 → f (get_or xs i 0) ≡ get_or (map f xs) i 0
map_at f [] zero e = e
map_at f [] (suc i) e = e
map_at f (x ∷ xs) zero e = refl
map_at f (x ∷ xs) (suc i) e = map_at f xs i e

-- ---- bytes

-- the remainder of an exclusive or
one_bit : (p x y : ℕ) → x < 2 → y < 2 → cond (nat_eq ((x + y) % 2) 1) p 0 ≡ bit_xor (cond (nat_eq x 1) p 0) (cond (nat_eq y 1) p 0)
one_bit p zero zero a b = refl
one_bit p zero (suc zero) a b = sym (xor_zero_l p)
one_bit p (suc zero) zero a b = sym (xor_zero_r p)
one_bit p (suc zero) (suc zero) a b = sym (xor_self p)
one_bit p x (suc (suc y)) a b = absurd (omega (arith, b))
one_bit p (suc (suc x)) y a b = absurd (omega (arith, a))

pub remainder-xor : (w g n a b : ℕ) → remainder w g (unsigned n (bit_xor a b)) ≡ bit_xor (remainder w g (unsigned n a)) (remainder w g (unsigned n b))
remainder-xor w g zero a b = refl
remainder-xor w g (suc n) a b =
    let p = power w g n in
    rw (length-unsigned n (bit_xor a b), length-unsigned n a, length-unsigned n b, bit_at_xor a b n, remainder-xor w g n a b, one_bit p (bit_at a n) (bit_at b n) (bit_at-lt a n) (bit_at-lt b n))
    (swap (cond (nat_eq (bit_at a n) 1) p 0) (cond (nat_eq (bit_at b n) 1) p 0) (remainder w g (unsigned n a)) (remainder w g (unsigned n b)))

abbrev check_of : ℕ → ℕ → List ℕ → ℕ
check_of w g xs = remainder w g (bits_of xs)

one_more : (w g x : ℕ) (xs : List ℕ) → check_of w g (x ∷ xs) ≡ bit_xor (entry w g (length xs) x) (check_of w g xs)
one_more w g x xs = remainder-append w g (unsigned 8 x) (bits_of xs) ∙ ap (λ n. bit_xor (times w g n (remainder w g (unsigned 8 x))) (check_of w g xs)) (length-bits_of xs)

-- bytes by bytes
abbrev pub mixed : List ℕ → List ℕ → List ℕ
mixed [] ys = []
mixed (x ∷ xs) [] = []
mixed (x ∷ xs) (y ∷ ys) = bit_xor x y ∷ mixed xs ys

mixed-check : (w g : ℕ) (xs ys : List ℕ) → length xs ≡ length ys → check_of w g (mixed xs ys) ≡ bit_xor (check_of w g xs) (check_of w g ys)
mixed-check w g [] [] e = refl
mixed-check w g [] (y ∷ ys) e = absurd (omega (arith, e))
mixed-check w g (x ∷ xs) [] e = absurd (omega (arith, e))
mixed-check w g (x ∷ xs) (y ∷ ys) e =
    let same : length xs ≡ length ys = omega (arith, e) in
    let n = length ys in
    let long = mixed_long xs ys same in
    one_more w g (bit_xor x y) (mixed xs ys) ∙ ap (λ k. bit_xor (entry w g k (bit_xor x y)) (check_of w g (mixed xs ys))) long
    ∙ ap (λ k. bit_xor (times w g (8 * n) k) (check_of w g (mixed xs ys))) (remainder-xor w g 8 x y) ∙ ap (λ k. bit_xor k (check_of w g (mixed xs ys))) (times-xor w g (8 * n) (remainder w g (unsigned 8 x)) (remainder w g (unsigned 8 y)))
    ∙ ap (λ k. bit_xor (bit_xor (entry w g n x) (entry w g n y)) k) (mixed-check w g xs ys same) ∙ swap (entry w g n x) (entry w g n y) (check_of w g xs) (check_of w g ys)
    ∙ ap (λ k. bit_xor (bit_xor (entry w g k x) (check_of w g xs)) (bit_xor (entry w g n y) (check_of w g ys))) (sym same)
    ∙ ap (λ k. bit_xor k (bit_xor (entry w g n y) (check_of w g ys))) (sym (one_more w g x xs)) ∙ ap (λ k. bit_xor (check_of w g (x ∷ xs)) k) (sym (one_more w g y ys))
  where
    mixed_long : (xs ys : List ℕ) → length xs ≡ length ys → length (mixed xs ys) ≡ length ys
    mixed_long [] [] e = refl
    mixed_long [] (y ∷ ys) e = absurd (omega (arith, e))
    mixed_long (x ∷ xs) [] e = absurd (omega (arith, e))
    mixed_long (x ∷ xs) (y ∷ ys) e = omega (arith, mixed_long xs ys (omega (arith, e)))

-- what the register holds goes into the first of the bytes
pub fed_mixed : (w g c : ℕ) (cs ys zs : List ℕ) → length cs ≡ length ys → 8 * length ys ≡ w → times w g w c ≡ check_of w g cs → fed w g c (bits_of (ys ++ zs)) ≡ check_of w g (mixed cs ys ++ zs)
fed_mixed w g c cs ys zs same wide is =
    let n = length (bits_of zs) in
    let r = check_of w g zs in
    let long : length (bits_of (ys ++ zs)) ≡ w + n = omega (arith, length-bits_of (ys ++ zs), length-append ys zs, length-bits_of zs, wide) in
    fed_is w g c (bits_of (ys ++ zs)) ∙ ap (λ k. bit_xor (times w g k c) (check_of w g (ys ++ zs))) long ∙ ap (λ k. bit_xor k (check_of w g (ys ++ zs))) (times-times w g w n c ∙ ap (times w g n) is)
    ∙ ap (λ bs. bit_xor (times w g n (check_of w g cs)) (remainder w g bs)) (bits_of-append ys zs) ∙ ap (λ k. bit_xor (times w g n (check_of w g cs)) k) (remainder-append w g (bits_of ys) (bits_of zs))
    ∙ sym (xor_assoc (times w g n (check_of w g cs)) (times w g n (check_of w g ys)) r) ∙ ap (λ k. bit_xor k r) (sym (times-xor w g n (check_of w g cs) (check_of w g ys)) ∙ ap (times w g n) (sym (mixed-check w g cs ys same)))
    ∙ sym (remainder-append w g (bits_of (mixed cs ys)) (bits_of zs)) ∙ ap (remainder w g) (sym (bits_of-append (mixed cs ys) zs))

-- eight bytes
pub eight_is : (w g a b c d e f h i : ℕ) → check_of w g (a ∷ b ∷ c ∷ d ∷ e ∷ f ∷ h ∷ i ∷ []) ≡ bit_xor (entry w g 7 a) (bit_xor (entry w g 6 b) (bit_xor (entry w g 5 c) (bit_xor (entry w g 4 d) (bit_xor (entry w g 3 e) (bit_xor (entry w g 2 f) (bit_xor (entry w g 1 h) (entry w g 0 i)))))))
eight_is w g a b c d e f h i =
    one_more w g a (b ∷ c ∷ d ∷ e ∷ f ∷ h ∷ i ∷ []) ∙ ap (bit_xor (entry w g 7 a)) (one_more w g b (c ∷ d ∷ e ∷ f ∷ h ∷ i ∷ []) ∙ ap (bit_xor (entry w g 6 b)) (one_more w g c (d ∷ e ∷ f ∷ h ∷ i ∷ [])
    ∙ ap (bit_xor (entry w g 5 c)) (one_more w g d (e ∷ f ∷ h ∷ i ∷ []) ∙ ap (bit_xor (entry w g 4 d)) (one_more w g e (f ∷ h ∷ i ∷ []) ∙ ap (bit_xor (entry w g 3 e)) (one_more w g f (h ∷ i ∷ [])
    ∙ ap (bit_xor (entry w g 2 f)) (one_more w g h (i ∷ []) ∙ ap (bit_xor (entry w g 1 h)) (one_more w g i [] ∙ xor_zero_r (entry w g 0 i))))))))

-- one byte, with the register wider by m bits
pub byte_step : (m g c b : ℕ) → c < 2 ^ (m + 8) → fed (m + 8) g c (unsigned 8 b) ≡ bit_xor (c % 2 ^ m * 2 ^ 8) (remainder (m + 8) g (unsigned 8 (bit_xor (c / 2 ^ m) b)))
byte_step m g c b lt =
    let w = m + 8 in
    let hi = c / 2 ^ m in
    let lo = c % 2 ^ m in
    let few : hi < 2 ^ 8 = shr_below c 8 m (let e : 8 + m ≡ m + 8 = omega arith in rw e lt) in
    let low : times w g 8 lo ≡ lo * 2 ^ 8 = times_small w g 8 lo (omega arith) (let e : m + 8 - 8 ≡ m = omega arith in rw e (mod-lt c (pow_pos m))) in
    let up : times w g m hi ≡ hi * 2 ^ m = times_small w g m hi (omega arith) (let e : m + 8 - m ≡ 8 = omega arith in rw e few) in
    let high : times w g 8 (hi * 2 ^ m) ≡ remainder w g (unsigned 8 hi) = ap (times w g 8) (sym up) ∙ sym (times-times w g m 8 hi) ∙ times_is w g 8 hi (omega arith) few in
    let shifted_out : times w g 8 c ≡ bit_xor (lo * 2 ^ 8) (remainder w g (unsigned 8 hi)) =
    ap (times w g 8) (whole_xor m c) ∙ times-xor w g 8 (hi * 2 ^ m) lo ∙ ap (λ k. bit_xor k (times w g 8 lo)) high ∙ ap (bit_xor (remainder w g (unsigned 8 hi))) low ∙ xor_comm (remainder w g (unsigned 8 hi)) (lo * 2 ^ 8) in
    fed_is w g c (unsigned 8 b) ∙ ap (λ k. bit_xor (times w g k c) (remainder w g (unsigned 8 b))) (length-unsigned 8 b) ∙ ap (λ k. bit_xor k (remainder w g (unsigned 8 b))) shifted_out
    ∙ xor_assoc (lo * 2 ^ 8) (remainder w g (unsigned 8 hi)) (remainder w g (unsigned 8 b)) ∙ ap (bit_xor (lo * 2 ^ 8)) (sym (remainder-xor w g 8 hi b))
