-- Bits held in a word.
use Rattle.std.proofs.Common.{◌≡◌, ℕ, zero, suc, ◌+◌, ◌-◌, ◌*◌, ◌/◌, ◌%◌, ◌^◌, ◌<◌, ◌≤◌, false, nat_eq, ◌∷◌, ◌++◌, length, replicate, bit_and, bit_or, refl, sym, ap, ◌∙◌, arith}
use Rattle.std.specs.Int.{bit_at}
use Rattle.std.proofs.lemmas.Nat.{pow_pos, pow-add, shl-shr, shr-shr, shr_split, mod-pow-add, field_of, shl_below, shr_below, shl_whole, shr_high, mod_low, or_shr, or_lt, le_or_l, le_or_r, mod_below, mul-add-lt, mul-mod_first}
use Rattle.std.proofs.lemmas.Nat.Bits.{shr_and_one, bit_at-suc, bit_at-zero}
use Rattle.std.specs.Int.Bits.{or_zero_r}
use Rattle.std.specs.Int.{w64, leading_zeros}
use Rattle.std.specs.Int.Count.{leading_unique, leading_of_zero}
use Rattle.std.proofs.lemmas.Nat.{leading_top, pow_below, le-div}
use Rattle.std.proofs.Math.Nat.{pow-suc, mul-mod_left}
use Rattle.std.proofs.Common.{append_assoc}
use Rattle.flac_bits.specs.Bits.{unsigned}
use Rattle.flac_bits.specs.Meaning.{unary_bits}
use Rattle.flac_bits.proofs.Readings.{unsigned_low}

pub length-unsigned : (n v : ℕ) → length (unsigned n v) ≡ n
length-unsigned zero v = refl
length-unsigned (suc n) v = omega (arith, length-unsigned n v)

bit_above : (x m n : ℕ) → bit_at x (n + m) ≡ bit_at (x / 2 ^ m) n
bit_above x m n =
    let k : n + m ≡ m + n = omega arith in
    rw k (sym (shr_and_one x (m + n)) ∙ ap (λ y. bit_and y 1) (sym (shr-shr x m n)) ∙ shr_and_one (x / 2 ^ m) n)

-- a number's bits are its high ones and its low ones
pub split : (n m x : ℕ) → unsigned (n + m) x ≡ unsigned n (x / 2 ^ m) ++ unsigned m x
split zero m x = let k : 0 + m ≡ m = omega arith in rw k refl
split (suc n) m x =
    let k : suc n + m ≡ suc (n + m) = omega arith in
    rw (k, bit_above x m n) (ap (λ bs. nat_eq (bit_at (x / 2 ^ m) n) 1 ∷ bs) (split n m x))

pub unsigned-mod : (m x : ℕ) → unsigned m (x % 2 ^ m) ≡ unsigned m x
unsigned-mod m x = sym (unsigned_low m (x / 2 ^ m) m (x % 2 ^ m) (omega arith)) ∙ ap (unsigned m) (shr_split x m)

-- what is at the top after a shift to the left
shifted_top : (w n m s : ℕ) → n + m + s ≡ 64 → w * 2 ^ n % 2 ^ 64 / 2 ^ (s + n) ≡ w / 2 ^ s % 2 ^ m
shifted_top w n m s e =
    let whole : 64 ≡ m + (s + n) = omega arith in
    let order : s + n ≡ n + s = omega arith in
    ap (λ k. w * 2 ^ n % 2 ^ k / 2 ^ (s + n)) whole ∙ field_of (w * 2 ^ n) m (s + n)
    ∙ ap (λ k. w * 2 ^ n / 2 ^ k % 2 ^ m) order ∙ ap (λ k. k % 2 ^ m) (sym (shr-shr (w * 2 ^ n) n s) ∙ ap (λ k. k / 2 ^ s) (shl-shr w n))

-- the first bits are taken
pub taken : (w n c : ℕ) → n ≤ c → c ≤ 63 → unsigned c (w / 2 ^ (64 - c)) ≡ unsigned n (w / 2 ^ 1 / 2 ^ (63 - n)) ++ unsigned (c - n) (w * 2 ^ n % 2 ^ 64 / 2 ^ (64 - (c - n)))
taken w n c le lt =
    let m = c - n in
    let s = 64 - c in
    let sum : n + m ≡ c = omega arith in
    let high : w / 2 ^ s / 2 ^ m ≡ w / 2 ^ 1 / 2 ^ (63 - n) =
    let a : s + m ≡ 1 + (63 - n) = omega arith in
    shr-shr w s m ∙ ap (λ k. w / 2 ^ k) a ∙ sym (shr-shr w 1 (63 - n)) in
    let low : unsigned m (w / 2 ^ s) ≡ unsigned m (w * 2 ^ n % 2 ^ 64 / 2 ^ (64 - m)) =
    let a : 64 - m ≡ s + n = omega arith in
    sym (unsigned-mod m (w / 2 ^ s)) ∙ ap (unsigned m) (sym (shifted_top w n m s (omega arith))) ∙ ap (λ k. unsigned m (w * 2 ^ n % 2 ^ 64 / 2 ^ k)) (sym a) in
    ap (λ k. unsigned k (w / 2 ^ s)) (sym sum) ∙ split n m (w / 2 ^ s) ∙ ap (λ v. unsigned n v ++ unsigned m (w / 2 ^ s)) high ∙ ap (λ bs. unsigned n (w / 2 ^ 1 / 2 ^ (63 - n)) ++ bs) low

pub taken_small : (w n : ℕ) → w < 2 ^ 64 → n ≤ 63 → w / 2 ^ 1 / 2 ^ (63 - n) < 2 ^ n
taken_small w n lt le =
    let a : 64 ≡ n + (1 + (63 - n)) = omega arith in
    let b : w < 2 ^ (n + (1 + (63 - n))) = rw (← a) lt in
    rw (shr-shr w 1 (63 - n)) (shr_below w n (1 + (63 - n)) b)

clean_part : (w s : ℕ) → w % 2 ^ s ≡ 0 → w / 2 ^ s * 2 ^ s ≡ w
clean_part w s e = let h = shr_split w s in omega (arith, h, e)

-- the word stays clean below the bits
pub taken_clean : (w n c : ℕ) → n ≤ c → c ≤ 63 → w % 2 ^ (64 - c) ≡ 0 → w * 2 ^ n % 2 ^ 64 % 2 ^ (64 - (c - n)) ≡ 0
taken_clean w n c le lt e =
    let k = 64 - (c - n) in
    let h = w / 2 ^ (64 - c) in
    let a : 64 ≡ (c - n) + k = omega arith in
    let b : k ≡ (64 - c) + n = omega arith in
    let is : w * 2 ^ n ≡ h * 2 ^ k + 0 = ap (λ v. v * 2 ^ n) (sym (clean_part w (64 - c) e)) ∙ (let p : 2 ^ ((64 - c) + n) ≡ 2 ^ (64 - c) * 2 ^ n = pow-add 2 (64 - c) n in rw (b, p) (grind arith)) in
    let inner : w * 2 ^ n % 2 ^ 64 % 2 ^ k ≡ (w * 2 ^ n) % 2 ^ k =
    ap (λ j. w * 2 ^ n % 2 ^ j % 2 ^ k) a ∙ ap (λ j. j % 2 ^ k) (mod-pow-add (w * 2 ^ n) (c - n) k) ∙ mod_low (w * 2 ^ n / 2 ^ k % 2 ^ (c - n)) k (w * 2 ^ n % 2 ^ k) (mod_below (w * 2 ^ n) (2 ^ k) (pow_pos k)) in
    inner ∙ ap (λ j. j % 2 ^ k) is ∙ mod_low h k 0 (pow_pos k)

below_top : (w c : ℕ) → w < 2 ^ 64 → c ≤ 64 → w / 2 ^ (64 - c) < 2 ^ c
below_top w c lt le =
    let a : 64 ≡ c + (64 - c) = omega arith in
    let b : w < 2 ^ (c + (64 - c)) = rw (← a) lt in
    shr_below w c (64 - c) b

-- n bits more: what the word is then
module _ (w x c n s : ℕ) (sum : c + n + s ≡ 64) (fits : x < 2 ^ n) (clean : w % 2 ^ (64 - c) ≡ 0) where
  more_is : w + x * 2 ^ s % 2 ^ 64 ≡ (w / 2 ^ (64 - c) * 2 ^ n + x) * 2 ^ s
  more_is =
      let h = w / 2 ^ (64 - c) in
      let a : 64 - c ≡ n + s = omega (arith, sum) in
      let p : 2 ^ (n + s) ≡ 2 ^ n * 2 ^ s = pow-add 2 n s in
      let is : w ≡ h * (2 ^ n * 2 ^ s) = sym (clean_part w (64 - c) clean) ∙ ap (λ k. h * 2 ^ k) a ∙ ap (λ k. h * k) p in
      let whole : x * 2 ^ s % 2 ^ 64 ≡ x * 2 ^ s = shl_whole x n s 64 fits (omega (arith, sum)) in
      let both : (j u : ℕ) → h * (u * j) + x * j ≡ (h * u + x) * j = λ j u. grind arith in
      ap (λ k. w + k) whole ∙ ap (λ k. k + x * 2 ^ s) is ∙ both (2 ^ s) (2 ^ n)

  room : 64 - (c + n) ≡ s
  room = omega (arith, sum)

  pub more_fits : w < 2 ^ 64 → w + x * 2 ^ s % 2 ^ 64 < 2 ^ 64
  more_fits wide =
      let h = w / 2 ^ (64 - c) in
      let p : 2 ^ (c + n) ≡ 2 ^ c * 2 ^ n = pow-add 2 c n in
      let joined : h * 2 ^ n + x < 2 ^ (c + n) = rw p (grind (arith, mul-add-lt h (2 ^ n) x (2 ^ c) (below_top w c wide (omega (arith, sum))) fits)) in
      let below : (h * 2 ^ n + x) * 2 ^ s < 2 ^ (c + n + s) = shl_below (h * 2 ^ n + x) (c + n) s joined in
      rw more_is (rw sum at below)

  pub more_clean : (w + x * 2 ^ s % 2 ^ 64) % 2 ^ (64 - (c + n)) ≡ 0
  more_clean =
      let h = w / 2 ^ (64 - c) in
      let z : (h * 2 ^ n + x) * 2 ^ s ≡ (h * 2 ^ n + x) * 2 ^ s + 0 = omega arith in
      rw (more_is, room, z) (mod_low (h * 2 ^ n + x) s 0 (pow_pos s))

  pub more_bits : unsigned (c + n) ((w + x * 2 ^ s % 2 ^ 64) / 2 ^ (64 - (c + n))) ≡ unsigned c (w / 2 ^ (64 - c)) ++ unsigned n x
  more_bits =
      let h = w / 2 ^ (64 - c) in
      rw (more_is, room, shl-shr (h * 2 ^ n + x) s)
      (split c n (h * 2 ^ n + x) ∙ ap (λ k. unsigned c k ++ unsigned n (h * 2 ^ n + x)) (shr_high h n x fits) ∙ ap (λ bs. unsigned c h ++ bs) (unsigned_low n h n x (omega arith)))

-- four bytes more
pub put_fits : (w x c : ℕ) → c < 32 → x < 2 ^ 32 → w < 2 ^ 64 → w % 2 ^ (64 - c) ≡ 0 → w + x * 2 ^ (32 - c) % 2 ^ 64 < 2 ^ 64
put_fits w x c lt fits wide e = more_fits w x c 32 (32 - c) (omega (arith, lt)) fits e wide

pub put_clean : (w x c : ℕ) → c < 32 → x < 2 ^ 32 → w % 2 ^ (64 - c) ≡ 0 → (w + x * 2 ^ (32 - c) % 2 ^ 64) % 2 ^ (64 - (c + 32)) ≡ 0
put_clean w x c lt fits e = more_clean w x c 32 (32 - c) (omega (arith, lt)) fits e

pub put_bits : (w x c : ℕ) → c < 32 → x < 2 ^ 32 → w % 2 ^ (64 - c) ≡ 0
    → unsigned (c + 32) ((w + x * 2 ^ (32 - c) % 2 ^ 64) / 2 ^ (64 - (c + 32))) ≡ unsigned c (w / 2 ^ (64 - c)) ++ unsigned 32 x
put_bits w x c lt fits e = more_bits w x c 32 (32 - c) (omega (arith, lt)) fits e

-- the first bits of eight bytes
pub first_bits : (x n : ℕ) → n ≤ 63 → x / 2 ^ 1 / 2 ^ (63 - n) ≡ x / 2 ^ (64 - n)
first_bits x n le = let e : 1 + (63 - n) ≡ 64 - n = omega (arith, le) in shr-shr x 1 (63 - n) ∙ ap (λ k. x / 2 ^ k) e

-- the same by two shifts, of which the first goes past the bits held
pub last_bits : (x c s n : ℕ) → c + s ≡ 64 - n → x / 2 ^ c / 2 ^ s ≡ x / 2 ^ (64 - n)
last_bits x c s n e = shr-shr x c s ∙ ap (λ k. x / 2 ^ k) e

pub last_small : (x c s n : ℕ) → x < 2 ^ 64 → n ≤ 64 → c + s ≡ 64 - n → x / 2 ^ c / 2 ^ s < 2 ^ n
last_small x c s n lt le e =
    let a : 64 ≡ n + (64 - n) = omega (arith, le) in
    let b : x < 2 ^ (n + (64 - n)) = rw (← a) lt in
    rw (last_bits x c s n e) (shr_below x n (64 - n) b)

-- two shifts to the left
pub shifted_twice : (w a b : ℕ) → w * 2 ^ a % 2 ^ 64 * 2 ^ b % 2 ^ 64 ≡ w * 2 ^ (a + b) % 2 ^ 64
shifted_twice w a b =
    let p : 2 ^ (a + b) ≡ 2 ^ a * 2 ^ b = pow-add 2 a b in
    let assoc : (x y : ℕ) → w * x * y ≡ w * (x * y) = λ x y. grind arith in
    mul-mod_first (w * 2 ^ a) (2 ^ b) (2 ^ 64) ∙ ap (λ v. v % 2 ^ 64) (assoc (2 ^ a) (2 ^ b) ∙ ap (λ v. w * v) (sym p))

-- one is zeros and a one
pub one_bits : (z : ℕ) → unsigned (suc z) 1 ≡ unary_bits z
one_bits zero = refl
one_bits (suc z) =
    let top : bit_at 1 (suc z) ≡ 0 = bit_at-suc 1 z ∙ bit_at-zero z in
    rw top (ap (λ bs. false ∷ bs) (one_bits z))

-- zero is zeros
pub zero_bits : (n : ℕ) → unsigned n 0 ≡ replicate n false
zero_bits zero = refl
zero_bits (suc n) =
    let top : bit_at 0 n ≡ 0 = bit_at-zero n in
    rw top (ap (λ bs. false ∷ bs) (zero_bits n))

-- what is above the first one is zeros
top_one : (w z c : ℕ) → w < 2 ^ 64 → c ≤ 63 → z ≡ leading_zeros w64 (bit_or w 1) → z < c → w / 2 ^ 1 / 2 ^ (63 - (z + 1)) ≡ 1
top_one w z c wide le is lt =
    let a = bit_or w 1 in
    let pos : 0 < a = omega (arith, le_or_r w 1) in
    let top = leading_top 64 a pos (or_lt 64 w 1 wide (omega arith)) in
    let j = top.0 in
    let je : j ≡ 63 - z = omega (arith, top.1, is) in
    let one : a / 2 ^ j ≡ 1 =
    let low : 1 ≤ a / 2 ^ j = le-div 1 a (2 ^ j) (pow_pos j) (omega (arith, top.2)) in
    let wide' : a < 2 ^ (1 + j) = let e : 1 + j ≡ suc j = omega arith in rw e (top.3) in
    let high : a / 2 ^ j < 2 ^ 1 = shr_below a 1 j wide' in
    omega (arith, low, high) in
    let small : 1 / 2 ^ j ≡ 0 =
    let b : 1 < 2 ^ (0 + j) = let e : 0 + j ≡ j = omega arith in rw e (pow_below 0 j (omega arith)) in
    let b' : 1 / 2 ^ j < 2 ^ 0 = shr_below 1 0 j b in
    omega (arith, b') in
    let same : a / 2 ^ j ≡ w / 2 ^ j = or_shr w 1 j ∙ ap (λ k. bit_or (w / 2 ^ j) k) small ∙ or_zero_r (w / 2 ^ j) in
    let s : 1 + (63 - (z + 1)) ≡ j = omega arith in
    shr-shr w 1 (63 - (z + 1)) ∙ ap (λ k. w / 2 ^ k) s ∙ sym same ∙ one

-- if fewer zeros are found than there are places, another one at the end changes nothing
pub top_same : (w k c : ℕ) → w < 2 ^ 64 → c ≤ 63 → leading_zeros w64 w + 1 + k ≤ c → leading_zeros w64 w ≡ leading_zeros w64 (bit_or w 1)
top_same w k c wide le fits =
    let some : w ≡ 0 → ⊥ = λ e. let all : leading_zeros w64 w ≡ 64 = rw e (leading_of_zero 64) in omega (arith, all, fits, le) in
    let top = leading_top 64 w (omega (arith, some)) wide in
    let j = top.0 in
    let one : 1 < 2 ^ suc j = pow_below 0 (suc j) (omega arith) in
    leading_unique 64 (bit_or w 1) (leading_zeros w64 w) (suc j) top.1 (or_lt (suc j) w 1 top.3 one) (omega (arith, le_or_l w 1, pow-suc 2 j, top.2))

pub zeros_taken : (w z c : ℕ) → w < 2 ^ 64 → c ≤ 63 → z ≡ leading_zeros w64 (bit_or w 1) → z < c
    → unsigned c (w / 2 ^ (64 - c)) ≡ unary_bits z ++ unsigned (c - (z + 1)) (w * 2 ^ (z + 1) % 2 ^ 64 / 2 ^ (64 - (c - (z + 1))))
zeros_taken w z c wide le is lt =
    let e : z + 1 ≡ suc z = omega arith in
    taken w (z + 1) c (omega arith) le ∙ ap (λ v. unsigned (z + 1) v ++ unsigned (c - (z + 1)) (w * 2 ^ (z + 1) % 2 ^ 64 / 2 ^ (64 - (c - (z + 1))))) (top_one w z c wide le is lt)
    ∙ ap (λ v. unsigned v 1 ++ unsigned (c - (z + 1)) (w * 2 ^ (z + 1) % 2 ^ 64 / 2 ^ (64 - (c - (z + 1))))) e ∙ ap (λ bs. bs ++ unsigned (c - (z + 1)) (w * 2 ^ (z + 1) % 2 ^ 64 / 2 ^ (64 - (c - (z + 1))))) (one_bits z)

-- one byte at the top
pub of_byte_bits : (b : ℕ) → b < 2 ^ 8 → unsigned 8 (b * 2 ^ 56 % 2 ^ 64 / 2 ^ 56) ≡ unsigned 8 b
of_byte_bits b fits = ap (λ k. unsigned 8 (k / 2 ^ 56)) (shl_whole b 8 56 64 fits (omega arith)) ∙ ap (unsigned 8) (shl-shr b 56)

-- zeros, a one and k bits are taken at once
pub rice_taken : (w z k c : ℕ) → w < 2 ^ 64 → c ≤ 63 → z ≡ leading_zeros w64 (bit_or w 1) → z + 1 + k ≤ c
    → unsigned c (w / 2 ^ (64 - c)) ≡ (unary_bits z ++ unsigned k (w * 2 ^ (z + 1) % 2 ^ 64 / 2 ^ 1 / 2 ^ (63 - k))) ++ unsigned (c - (z + 1 + k)) (w * 2 ^ (z + 1 + k) % 2 ^ 64 / 2 ^ (64 - (c - (z + 1 + k))))
rice_taken w z k c wide le is fits =
    let d = c - (z + 1) in
    let x = w * 2 ^ (z + 1) % 2 ^ 64 in
    let n : d - k ≡ c - (z + 1 + k) = omega (arith, fits) in
    let twice : x * 2 ^ k % 2 ^ 64 ≡ w * 2 ^ (z + 1 + k) % 2 ^ 64 =
    let p : 2 ^ (z + 1 + k) ≡ 2 ^ (z + 1) * 2 ^ k = pow-add 2 (z + 1) k in
    let assoc : (a b : ℕ) → w * a * b ≡ w * (a * b) = λ a b. grind arith in
    mul-mod_first (w * 2 ^ (z + 1)) (2 ^ k) (2 ^ 64) ∙ ap (λ v. v % 2 ^ 64) (assoc (2 ^ (z + 1)) (2 ^ k) ∙ ap (λ v. w * v) (sym p)) in
    let low = unsigned k (x / 2 ^ 1 / 2 ^ (63 - k)) in
    zeros_taken w z c wide le is (omega (arith, fits)) ∙ ap (λ bs. unary_bits z ++ bs) (taken x k d (omega (arith, fits)) (omega (arith, le)))
    ∙ ap (λ v. unary_bits z ++ (low ++ unsigned (d - k) (v / 2 ^ (64 - (d - k))))) twice
    ∙ ap (λ j. unary_bits z ++ (low ++ unsigned j (w * 2 ^ (z + 1 + k) % 2 ^ 64 / 2 ^ (64 - j)))) n
    ∙ sym (append_assoc (unary_bits z) low (unsigned (c - (z + 1 + k)) (w * 2 ^ (z + 1 + k) % 2 ^ 64 / 2 ^ (64 - (c - (z + 1 + k))))))

-- the one and the k bits as one number
module _ (w z k c : ℕ) (wide : w < 2 ^ 64) (le : c ≤ 63) (is : z ≡ leading_zeros w64 (bit_or w 1)) (fits : z + 1 + k ≤ c) where
  abbrev both : ℕ
  both = w / 2 ^ (64 - (z + 1 + k))

  one : both / 2 ^ k ≡ 1
  one =
      let s : 64 - (z + 1 + k) + k ≡ 1 + (63 - (z + 1)) = omega (arith, fits, le) in
      shr-shr w (64 - (z + 1 + k)) k ∙ ap (λ j. w / 2 ^ j) s ∙ sym (shr-shr w 1 (63 - (z + 1))) ∙ top_one w z c wide le is (omega (arith, fits))

  pub both_is : both ≡ 2 ^ k + both % 2 ^ k
  both_is = sym (shr_split both k) ∙ ap (λ q. q * 2 ^ k + both % 2 ^ k) one ∙ omega arith

  -- the same, if the zeros were shifted out before
  pub ahead_is : w * 2 ^ z % 2 ^ 64 / 2 ^ (63 - k) ≡ both
  ahead_is =
      let s = 64 - (z + 1 + k) in
      let e : 63 - k ≡ s + z = omega (arith, fits, le) in
      let p : 2 ^ (k + 1) ≡ 2 ^ k * 2 ^ 1 = pow-add 2 k 1 in
      let low : both % 2 ^ k < 2 ^ k = mod_below both (2 ^ k) (pow_pos k) in
      let small : both < 2 ^ (k + 1) = omega (arith, p, low, both_is) in
      let alone : both ≡ 0 * 2 ^ (k + 1) + both = omega arith in
      ap (λ j. w * 2 ^ z % 2 ^ 64 / 2 ^ j) e ∙ shifted_top w z (k + 1) s (omega (arith, fits, le)) ∙ ap (λ v. v % 2 ^ (k + 1)) alone ∙ mod_low 0 (k + 1) both small

  pub rest_is : w * 2 ^ z % 2 ^ 64 * 2 ^ (k + 1) % 2 ^ 64 ≡ w * 2 ^ (z + 1 + k) % 2 ^ 64
  rest_is =
      let e : z + (k + 1) ≡ z + 1 + k = omega arith in
      shifted_twice w z (k + 1) ∙ ap (λ j. w * 2 ^ j % 2 ^ 64) e

  pub code_taken : unsigned c (w / 2 ^ (64 - c)) ≡ (unary_bits z ++ unsigned k (both % 2 ^ k)) ++ unsigned (c - (z + 1 + k)) (w * 2 ^ (z + 1 + k) % 2 ^ 64 / 2 ^ (64 - (c - (z + 1 + k))))
  code_taken =
      let rest = unsigned (c - (z + 1 + k)) (w * 2 ^ (z + 1 + k) % 2 ^ 64 / 2 ^ (64 - (c - (z + 1 + k)))) in
      let s : 1 + (63 - (z + 1 + k)) ≡ 64 - (z + 1 + k) = omega (arith, fits, le) in
      let e : z + 1 ≡ suc z = omega arith in
      taken w (z + 1 + k) c fits le ∙ ap (λ v. unsigned (z + 1 + k) v ++ rest) (shr-shr w 1 (63 - (z + 1 + k)) ∙ ap (λ j. w / 2 ^ j) s)
      ∙ ap (λ bs. bs ++ rest) (split (z + 1) k both ∙ ap (λ v. unsigned (z + 1) v ++ unsigned k both) one ∙ ap (λ j. unsigned j 1 ++ unsigned k both) e ∙ ap (λ bs. bs ++ unsigned k both) (one_bits z) ∙ ap (λ bs. unary_bits z ++ bs) (sym (unsigned-mod k both)))

pub shifted_small : (w n : ℕ) → w * 2 ^ n % 2 ^ 64 < 2 ^ 64
shifted_small w n = mod_below (w * 2 ^ n) (2 ^ 64) (pow_pos 64)

-- n bits at the top of the word
pub at_top : (v n : ℕ) → n ≤ 63 → v < 2 ^ n → v * 2 ^ (63 - n) % 18446744073709551616 * 2 % 18446744073709551616 ≡ v * 2 ^ (64 - n)
at_top v n le lt =
    let k : n + (63 - n) ≡ 63 = omega (arith, le) in
    let s : 64 - n ≡ suc (63 - n) = omega (arith, le) in
    let first : v * 2 ^ (63 - n) % 2 ^ 64 ≡ v * 2 ^ (63 - n) = shl_whole v n (63 - n) 64 lt (omega (arith, le)) in
    let twice : v * 2 ^ (63 - n) * 2 ≡ v * 2 ^ (64 - n) = rw (s, pow-suc) (grind arith) in
    let whole : v * 2 ^ (64 - n) % 2 ^ 64 ≡ v * 2 ^ (64 - n) = shl_whole v n (64 - n) 64 lt (omega (arith, le)) in
    ap (λ x. x * 2 % 2 ^ 64) first ∙ ap (λ x. x % 2 ^ 64) twice ∙ whole

pub at_top_clean : (v n : ℕ) → n ≤ 63 → v < 2 ^ n → v * 2 ^ (63 - n) % 18446744073709551616 * 2 % 18446744073709551616 % 2 ^ (64 - n) ≡ 0
at_top_clean v n le lt = rw (at_top v n le lt) (mul-mod_left v (2 ^ (64 - n)))

pub at_top_bits : (v n : ℕ) → n ≤ 63 → v < 2 ^ n → unsigned n (v * 2 ^ (63 - n) % 18446744073709551616 * 2 % 18446744073709551616 / 2 ^ (64 - n)) ≡ unsigned n v
at_top_bits v n le lt = rw (at_top v n le lt) (ap (unsigned n) (shl-shr v (64 - n)))
