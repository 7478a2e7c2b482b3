-- Numbers under a unary and a Rice code, and signed numbers.
use Rattle.std.proofs.Common.{◌≡◌, ℕ, ℤ, pos, negsuc, zero, suc, ◌+◌, ◌-◌, ◌*◌, ◌/◌, ◌%◌, ◌^◌, ◌<◌, ◌≤◌, true, false, List, [], ◌∷◌, ◌++◌, length, take, drop, get_or, replicate, refl, sym, ap, ◌∙◌, arith, append_assoc}
use Rattle.std.proofs.lemmas.Nat.{pow_pos, pow_below, pow-add, shl_whole, shr_below, shr_split, shl-shr, shr_high, mod_low, mod_below, mul-add-lt}
use Rattle.std.proofs.lemmas.List.{take-append-drop, drop-drop}
use Rattle.std.proofs.Math.Seq.{drop-cons}
use Rattle.std.specs.Int.{w64, cast_unsigned}
use Rattle.std.specs.Int.RustNames.{FitsSigned}
use Rattle.flac_bits.specs.Bits.{unsigned, bits_of}
use Rattle.flac_bits.specs.Meaning.{unary_bits}
use Rattle.flac_bits.specs.Signed.{modulo}
use Rattle.flac_bits.proofs.Holding.{bits_of-append}
use Rattle.flac_bits.proofs.Readings.{unsigned_low}
use Rattle.flac_bits.proofs.Words.{split, one_bits, unsigned-mod}
use Rattle.flac_bits.proofs.Appending.{shl_kept}

abbrev whole : ℕ
whole = 18446744073709551616

pub one_shifted : (k : ℕ) → k ≤ 32 → 1 * 2 ^ k % whole ≡ 2 ^ k
one_shifted k le = let e : 1 * 2 ^ k ≡ 2 ^ k = omega arith in shl_whole 1 1 k 64 (omega arith) (omega (arith, le)) ∙ e

pub low_is : (k v : ℕ) → k ≤ 32 → v % (1 * 2 ^ k % whole) ≡ v % 2 ^ k
low_is k v le = ap (λ p. v % p) (one_shifted k le)

pub low_fits : (k v : ℕ) → k ≤ 32 → v % (1 * 2 ^ k % whole) < 2 ^ k
low_fits k v le = rw (low_is k v le) (mod_below v (2 ^ k) (pow_pos k))

-- one number for zeros, a one and k bits
pub rice_fits : (k v z : ℕ) → k ≤ 32 → 1 * 2 ^ k % whole + v % (1 * 2 ^ k % whole) < 2 ^ (z + 1 + k)
rice_fits k v z le =
    let p : 2 ^ (z + 1 + k) ≡ 2 ^ (z + 1) * 2 ^ k = pow-add 2 (z + 1) k in
    let below : 1 * 2 ^ k + v % 2 ^ k < 2 ^ k * 2 ^ (z + 1) = mul-add-lt 1 (2 ^ k) (v % 2 ^ k) (2 ^ (z + 1)) (pow_below 0 (z + 1) (omega arith)) (mod_below v (2 ^ k) (pow_pos k)) in
    rw (low_is k v le, one_shifted k le, p) (grind (arith, below))

pub rice_bits : (k v z : ℕ) → k ≤ 32 → unsigned (z + 1 + k) (1 * 2 ^ k % whole + v % (1 * 2 ^ k % whole)) ≡ unary_bits z ++ unsigned k v
rice_bits k v z le =
    let low = v % 2 ^ k in
    let lt : low < 2 ^ k = mod_below v (2 ^ k) (pow_pos k) in
    let e : z + 1 ≡ suc z = omega arith in
    ap (λ a. unsigned (z + 1 + k) (1 * 2 ^ k % whole + a)) (low_is k v le) ∙ ap (λ a. unsigned (z + 1 + k) (a + low)) (shl_whole 1 1 k 64 (omega arith) (omega (arith, le)))
    ∙ split (z + 1) k (1 * 2 ^ k + low) ∙ ap (λ a. unsigned (z + 1) a ++ unsigned k (1 * 2 ^ k + low)) (shr_high 1 k low lt)
    ∙ ap (λ j. unsigned j 1 ++ unsigned k (1 * 2 ^ k + low)) e ∙ ap (λ bs. bs ++ unsigned k (1 * 2 ^ k + low)) (one_bits z)
    ∙ ap (λ bs. unary_bits z ++ bs) (unsigned_low k 1 k low (omega arith) ∙ unsigned-mod k v)

pub long_rice : (k v z : ℕ) → k ≤ 32 → unary_bits z ++ unsigned k (v % (1 * 2 ^ k % whole)) ≡ unary_bits z ++ unsigned k v
long_rice k v z le = ap (λ a. unary_bits z ++ unsigned k a) (low_is k v le) ∙ ap (λ bs. unary_bits z ++ bs) (unsigned-mod k v)

zeros_more : (n m : ℕ) → replicate (n + m) false ≡ replicate n false ++ replicate m false
zeros_more zero m = let e : 0 + m ≡ m = omega arith in ap (λ k. replicate k false) e
zeros_more (suc n) m = let e : suc n + m ≡ suc (n + m) = omega arith in ap (λ k. replicate k false) e ∙ ap (λ bs. false ∷ bs) (zeros_more n m)

no_bits : unsigned 64 0 ≡ replicate 64 false
no_bits = refl

-- 64 zeros more
pub unary_step : (q i : ℕ) → i < q / 64 → unary_bits (q - 64 * i) ≡ unsigned 64 0 ++ unary_bits (q - 64 * (i + 1))
unary_step q i lt =
    let m = q - 64 * (i + 1) in
    let e : q - 64 * i ≡ 64 + m = omega (arith, lt) in
    ap unary_bits e ∙ ap (λ bs. bs ++ true ∷ []) (zeros_more 64 m) ∙ append_assoc (replicate 64 false) (replicate m false) (true ∷ []) ∙ ap (λ bs. bs ++ unary_bits m) (sym no_bits)

pub unary_last : (q i : ℕ) → i ≤ q / 64 → q / 64 ≤ i → unsigned (q % 64 + 1) 1 ≡ unary_bits (q - 64 * i)
unary_last q i le ge =
    let e : q % 64 + 1 ≡ suc (q - 64 * i) = omega (arith, le, ge) in
    ap (λ k. unsigned k 1) e ∙ one_bits (q - 64 * i)

pub one_fits : (n : ℕ) → 1 < 2 ^ (n + 1)
one_fits n = pow_below 0 (n + 1) (omega arith)

-- one byte more
pub byte_step : (bytes : List ℕ) (i : ℕ) → i < length bytes → bits_of (drop i bytes) ≡ unsigned 8 (get_or bytes i 0) ++ bits_of (drop (i + 1) bytes)
byte_step bytes i lt = let e : suc i ≡ i + 1 = omega arith in ap bits_of (drop-cons bytes i 0 lt) ∙ ap (λ k. unsigned 8 (get_or bytes i 0) ++ bits_of (drop k bytes)) e

-- eight bytes more
pub eight_step : (bytes : List ℕ) (i v : ℕ) → unsigned 64 v ≡ bits_of (take 8 (drop (8 * i) bytes)) → bits_of (drop (8 * i) bytes) ≡ unsigned 64 v ++ bits_of (drop (8 * (i + 1)) bytes)
eight_step bytes i v is =
    let here = drop (8 * i) bytes in
    let place : 8 * i + 8 ≡ 8 * (i + 1) = omega arith in
    let on : drop 8 here ≡ drop (8 * (i + 1)) bytes = drop-drop 8 (8 * i) bytes ∙ ap (λ k. drop k bytes) place in
    sym (ap bits_of (take-append-drop 8 here)) ∙ bits_of-append (take 8 here) (drop 8 here) ∙ ap (λ bs. bs ++ bits_of (drop 8 here)) (sym is) ∙ ap (λ bs. unsigned 64 v ++ bits_of bs) on

-- the lowest bits of a negative number
below_zero : (n m a : ℕ) → n + m ≡ 64 → a < 2 ^ 64 → (2 ^ 64 - suc a) % 2 ^ n ≡ 2 ^ n - 1 - a % 2 ^ n
below_zero n m a e lt =
    let p : 2 ^ 64 ≡ 2 ^ m * 2 ^ n = (let k : 64 ≡ m + n = omega (arith, e) in ap (λ j. 2 ^ j) k) ∙ pow-add 2 m n in
    let q = a / 2 ^ n in
    let r = a % 2 ^ n in
    let h : q < 2 ^ m = shr_below a m n (let k : m + n ≡ 64 = omega (arith, e) in rw k lt) in
    let is : q * 2 ^ n + r ≡ a = shr_split a n in
    let small : r < 2 ^ n = mod_below a (2 ^ n) (pow_pos n) in
    let d = 2 ^ m - 1 - q in
    let top : 2 ^ m ≡ d + 1 + q = omega (arith, h) in
    let spread : (x y z : ℕ) → (x + 1 + y) * z ≡ x * z + z + y * z = λ x y z. grind arith in
    let all : 2 ^ m * 2 ^ n ≡ d * 2 ^ n + 2 ^ n + q * 2 ^ n = ap (λ k. k * 2 ^ n) top ∙ spread d q (2 ^ n) in
    let split : 2 ^ 64 - suc a ≡ d * 2 ^ n + (2 ^ n - 1 - r) = ap (λ k. k - suc a) (p ∙ all) ∙ omega (arith, is, small) in
    ap (λ k. k % 2 ^ n) split ∙ mod_low d n (2 ^ n - 1 - r) (omega (arith, small))

pub lowest : (n m : ℕ) (z : ℤ) → n + m ≡ 64 → FitsSigned w64 z → cast_unsigned w64 z * 2 ^ m % 2 ^ 64 / 2 ^ m ≡ modulo n z
lowest n m (pos a) e f = ap (λ k. k / 2 ^ m) (shl_kept a m n e) ∙ shl-shr (a % 2 ^ n) m
lowest n m (negsuc a) e f =
    let lt : a < 2 ^ 63 = f.sfits in
    ap (λ k. k / 2 ^ m) (shl_kept (2 ^ 64 - suc a) m n e) ∙ shl-shr ((2 ^ 64 - suc a) % 2 ^ n) m ∙ below_zero n m a e (omega (arith, lt))
