-- Bits after those held in a word.
use Rattle.std.proofs.Common.{◌≡◌, ℕ, ◌+◌, ◌-◌, ◌*◌, ◌/◌, ◌%◌, ◌^◌, ◌<◌, ◌≤◌, ◌++◌, sym, ap, ◌∙◌, arith, append_assoc}
use Rattle.std.proofs.lemmas.Nat.{pow_pos, pow-add, shl-shr, shr_split, shr_high, shr_below, mod-pow-add, mod_low, mod_below, mul-add-lt, mul-mod_first}
use Rattle.flac_bits.specs.Bits.{unsigned}
use Rattle.flac_bits.specs.Check.{fed}
use Rattle.flac_bits.proofs.Readings.{unsigned_low}
use Rattle.flac_bits.proofs.Words.{split}
use Rattle.flac_bits.proofs.Check.{fed-append}

-- the lowest bits of a remainder
pub low_mod : (c m w : ℕ) → c ≤ m → unsigned c (w % 2 ^ m) ≡ unsigned c w
low_mod c m w le = sym (unsigned_low c (w / 2 ^ m) m (w % 2 ^ m) le) ∙ ap (unsigned c) (shr_split w m)

-- what a shift in 64 bits keeps
pub shl_kept : (w n m : ℕ) → m + n ≡ 64 → w * 2 ^ n % 2 ^ 64 ≡ (w % 2 ^ m) * 2 ^ n
shl_kept w n m e =
    let z : w * 2 ^ n ≡ w * 2 ^ n + 0 = omega arith in
    let none : w * 2 ^ n % 2 ^ n ≡ 0 = ap (λ k. k % 2 ^ n) z ∙ mod_low w n 0 (pow_pos n) in
    let cut : w * 2 ^ n % 2 ^ (m + n) ≡ (w % 2 ^ m) * 2 ^ n + 0 =
    mod-pow-add (w * 2 ^ n) m n ∙ ap (λ k. (k % 2 ^ m) * 2 ^ n + w * 2 ^ n % 2 ^ n) (shl-shr w n) ∙ ap (λ k. (w % 2 ^ m) * 2 ^ n + k) none in
    ap (λ k. w * 2 ^ n % 2 ^ k) (sym e) ∙ cut ∙ omega arith

pub put_fits : (w n m v : ℕ) → m + n ≡ 64 → v < 2 ^ n → w * 2 ^ n % 2 ^ 64 + v < 2 ^ 64
put_fits w n m v e lt =
    let below : (w % 2 ^ m) * 2 ^ n + v < 2 ^ n * 2 ^ m = mul-add-lt (w % 2 ^ m) (2 ^ n) v (2 ^ m) (mod_below w (2 ^ m) (pow_pos m)) lt in
    let order : n + m ≡ 64 = omega (arith, e) in
    let all : 2 ^ n * 2 ^ m ≡ 2 ^ 64 = sym (pow-add 2 n m) ∙ ap (λ k. 2 ^ k) order in
    rw (shl_kept w n m e) (rw all at below)

pub put_bits : (c n w v m : ℕ) → m + n ≡ 64 → c ≤ m → v < 2 ^ n → unsigned (c + n) (w * 2 ^ n % 2 ^ 64 + v) ≡ unsigned c w ++ unsigned n v
put_bits c n w v m e le lt =
    let a = w % 2 ^ m in
    rw (shl_kept w n m e)
    (split c n (a * 2 ^ n + v) ∙ ap (λ k. unsigned c k ++ unsigned n (a * 2 ^ n + v)) (shr_high a n v lt)
    ∙ ap (λ bs. bs ++ unsigned n (a * 2 ^ n + v)) (low_mod c m w le) ∙ ap (λ bs. unsigned c w ++ bs) (unsigned_low n a n v (omega arith)))

-- a shift in two steps
twice : (w f : ℕ) → 1 ≤ f → w * 2 ^ (f - 1) % 2 ^ 64 * 2 ^ 1 % 2 ^ 64 ≡ w * 2 ^ f % 2 ^ 64
twice w f le =
    let k : (f - 1) + 1 ≡ f = omega arith in
    let p : 2 ^ (f - 1) * 2 ^ 1 ≡ 2 ^ f = sym (pow-add 2 (f - 1) 1) ∙ ap (λ j. 2 ^ j) k in
    let assoc : (a b : ℕ) → w * a * b ≡ w * (a * b) = λ a b. grind arith in
    mul-mod_first (w * 2 ^ (f - 1)) (2 ^ 1) (2 ^ 64) ∙ ap (λ v. v % 2 ^ 64) (assoc (2 ^ (f - 1)) (2 ^ 1) ∙ ap (λ v. w * v) p)

high_fits : (f r n v : ℕ) → f + r ≡ n → v < 2 ^ n → v / 2 ^ r < 2 ^ f
high_fits f r n v e lt = let h : v < 2 ^ (f + r) = rw e lt in shr_below v f r h

pub fill_fits : (c f r n w v : ℕ) → c + f ≡ 64 → 1 ≤ f → f + r ≡ n → v < 2 ^ n → w * 2 ^ (f - 1) % 2 ^ 64 * 2 ^ 1 % 2 ^ 64 + v / 2 ^ r < 2 ^ 64
fill_fits c f r n w v e pos sum lt = rw (twice w f pos) (put_fits w f c (v / 2 ^ r) e (high_fits f r n v sum lt))

pub fill_bits : (c f r n w v : ℕ) → c + f ≡ 64 → 1 ≤ f → f + r ≡ n → v < 2 ^ n
    → unsigned 64 (w * 2 ^ (f - 1) % 2 ^ 64 * 2 ^ 1 % 2 ^ 64 + v / 2 ^ r) ++ unsigned r v ≡ unsigned c w ++ unsigned n v
fill_bits c f r n w v e pos sum lt =
    let h = v / 2 ^ r in
    rw (twice w f pos)
    (ap (λ k. unsigned k (w * 2 ^ f % 2 ^ 64 + h) ++ unsigned r v) (sym e) ∙ ap (λ bs. bs ++ unsigned r v) (put_bits c f w h c e (omega arith) (high_fits f r n v sum lt))
    ∙ append_assoc (unsigned c w) (unsigned f h) (unsigned r v) ∙ ap (λ bs. unsigned c w ++ bs) (sym (split f r v) ∙ ap (λ k. unsigned k v) sum))

-- the first byte of n bits
pub first_byte : (c r w : ℕ) → 8 + r ≡ c → unsigned c w ≡ unsigned 8 (w / 2 ^ r % 2 ^ 8) ++ unsigned r w
first_byte c r w e = ap (λ k. unsigned k w) (sym e) ∙ split 8 r w ∙ ap (λ bs. bs ++ unsigned r w) (sym (low_mod 8 8 (w / 2 ^ r) (omega arith)))

-- one more byte of the bits held
pub fed_rest : (p g n i check word : ℕ) → i < n / 8 → fed p g check (unsigned (n - 8 * i) word) ≡ fed p g (fed p g check (unsigned 8 (word / 2 ^ (n - 8 * i - 8) % 2 ^ 8))) (unsigned (n - 8 * (i + 1)) word)
fed_rest p g n i check word lt =
    let r = n - 8 * i - 8 in
    let e : 8 + r ≡ n - 8 * i = omega (arith, lt) in
    let s : n - 8 * (i + 1) ≡ r = omega (arith, lt) in
    ap (fed p g check) (first_byte (n - 8 * i) r word e) ∙ fed-append p g check (unsigned 8 (word / 2 ^ r % 2 ^ 8)) (unsigned r word) ∙ ap (λ k. fed p g (fed p g check (unsigned 8 (word / 2 ^ r % 2 ^ 8))) (unsigned k word)) (sym s)
