-- Feeding bits one by one gives the remainder.
use Rattle.std.proofs.Common.{◌≡◌, ℕ, zero, suc, ◌+◌, ◌-◌, ◌*◌, ◌%◌, ◌^◌, ◌<◌, Bool, true, false, cond, nat_eq, List, [], ◌∷◌, length, take, get_or, ◌++◌, ◌/◌, bit_and, bit_xor, refl, sym, ap, ◌∙◌, arith}
use Rattle.std.specs.Int.{bit_at}
use Rattle.std.specs.Int.Bits.{xor_assoc, xor_self, xor_zero_l, xor_zero_r}
use Rattle.std.proofs.lemmas.Nat.{xor_comm, xor_mod, xor_block}
use Rattle.std.proofs.lemmas.Nat.Bits.{bit_at-lt, bit_at_xor}
use Rattle.std.proofs.lemmas.List.{take_more}
use Rattle.flac_bits.specs.Bits.{unsigned, bits_of}
use Rattle.flac_bits.proofs.Digits.{number_rest, bits_of-snoc}
use Rattle.flac_bits.specs.State.{Mark, feed, step, past}
use Rattle.flac_bits.specs.Check.{shifted, power, remainder, fed}

-- the four parts of an exclusive or, sorted
pub swap : (a b c d : ℕ) → bit_xor (bit_xor a b) (bit_xor c d) ≡ bit_xor (bit_xor a c) (bit_xor b d)
swap a b c d = xor_assoc a b (bit_xor c d) ∙ ap (λ k. bit_xor a k) (sym (xor_assoc b c d) ∙ ap (λ k. bit_xor k d) (xor_comm b c) ∙ xor_assoc c b d) ∙ sym (xor_assoc a c (bit_xor b d))

twice : (a g : ℕ) → bit_xor (bit_xor a g) g ≡ a
twice a g = xor_assoc a g g ∙ ap (λ k. bit_xor a k) (xor_self g) ∙ xor_zero_r a

double : (w a b : ℕ) → 2 * bit_xor a b % 2 ^ w ≡ bit_xor (2 * a % 2 ^ w) (2 * b % 2 ^ w)
double w a b =
    let block : bit_xor (a * 2 ^ 1 + 0) (b * 2 ^ 1 + 0) ≡ bit_xor a b * 2 ^ 1 + bit_xor 0 0 = xor_block 1 a b 0 0 (omega arith) (omega arith) in
    let left : a * 2 ^ 1 + 0 ≡ 2 * a = omega arith in
    let right : b * 2 ^ 1 + 0 ≡ 2 * b = omega arith in
    let all : bit_xor (2 * a) (2 * b) ≡ bit_xor a b * 2 ^ 1 + bit_xor 0 0 = sym (ap (λ k. bit_xor k (2 * b)) left) ∙ sym (ap (λ k. bit_xor (a * 2 ^ 1 + 0) k) right) ∙ block in
    let whole : 2 * bit_xor a b ≡ bit_xor (2 * a) (2 * b) = rw (all, xor_self) (omega arith) in
    ap (λ k. k % 2 ^ w) whole ∙ xor_mod (2 * a) (2 * b) w

-- the reduction by the top bit, which is 0 or 1
abbrev reduced : ℕ → ℕ → ℕ → ℕ
reduced g top c = cond (nat_eq top 1) (bit_xor c g) c

reduced-xor : (g s t c d : ℕ) → s < 2 → t < 2 → reduced g ((s + t) % 2) (bit_xor c d) ≡ bit_xor (reduced g s c) (reduced g t d)
reduced-xor g zero zero c d a b = refl
reduced-xor g zero (suc zero) c d a b = xor_assoc c d g
reduced-xor g (suc zero) zero c d a b = xor_assoc c d g ∙ ap (λ k. bit_xor c k) (xor_comm d g) ∙ sym (xor_assoc c g d)
reduced-xor g (suc zero) (suc zero) c d a b = sym (xor_zero_r (bit_xor c d)) ∙ ap (λ k. bit_xor (bit_xor c d) k) (sym (xor_self g)) ∙ swap c d g g
reduced-xor g s (suc (suc t)) c d a b = absurd (omega (arith, b))
reduced-xor g (suc (suc s)) t c d a b = absurd (omega (arith, a))

shifted-xor : (w g a b : ℕ) → shifted w g (bit_xor a b) ≡ bit_xor (shifted w g a) (shifted w g b)
shifted-xor w g a b =
    rw (double w a b, bit_at_xor a b (w - 1)) (reduced-xor g (bit_at a (w - 1)) (bit_at b (w - 1)) (2 * a % 2 ^ w) (2 * b % 2 ^ w) (bit_at-lt a (w - 1)) (bit_at-lt b (w - 1)))

shifted-zero : (w g : ℕ) → shifted w g 0 ≡ 0
shifted-zero w g = let s = shifted w g 0 in sym (twice s s) ∙ ap (λ k. bit_xor k s) (sym (shifted-xor w g 0 0)) ∙ xor_self s

feed_is : (w g c : ℕ) (b : Bool) → feed w g c b ≡ bit_xor (shifted w g c) (cond b g 0)
feed_is w g c true = go (nat_eq (bit_at c (w - 1)) 1)
  where
    go : (t : Bool) → cond t (2 * c % 2 ^ w) (bit_xor (2 * c % 2 ^ w) g) ≡ bit_xor (cond t (bit_xor (2 * c % 2 ^ w) g) (2 * c % 2 ^ w)) g
    go true = sym (twice (2 * c % 2 ^ w) g)
    go false = refl
feed_is w g c false = sym (xor_zero_r (shifted w g c))

-- n shifts
unfoldable pub times : ℕ → ℕ → ℕ → ℕ → ℕ
times w g zero c = c
times w g (suc n) c = times w g n (shifted w g c)

pub times-xor : (w g n a b : ℕ) → times w g n (bit_xor a b) ≡ bit_xor (times w g n a) (times w g n b)
unfolding times
times-xor w g zero a b = refl
times-xor w g (suc n) a b = ap (times w g n) (shifted-xor w g a b) ∙ times-xor w g n (shifted w g a) (shifted w g b)

pub times-zero : (w g n : ℕ) → times w g n 0 ≡ 0
unfolding times
times-zero w g zero = refl
times-zero w g (suc n) = ap (times w g n) (shifted-zero w g) ∙ times-zero w g n

times-shifted : (w g n c : ℕ) → times w g n (shifted w g c) ≡ shifted w g (times w g n c)
unfolding times
times-shifted w g zero c = refl
times-shifted w g (suc n) c = times-shifted w g n (shifted w g c)

pub times-power : (w g n : ℕ) → times w g n g ≡ power w g n
unfolding times
times-power w g zero = refl
times-power w g (suc n) = times-shifted w g n g ∙ ap (shifted w g) (times-power w g n)

times-bit : (w g n : ℕ) (b : Bool) → times w g n (cond b g 0) ≡ cond b (power w g n) 0
times-bit w g n true = times-power w g n
times-bit w g n false = times-zero w g n

pub fed_is : (w g c : ℕ) (bs : List Bool) → fed w g c bs ≡ bit_xor (times w g (length bs) c) (remainder w g bs)
unfolding times fed
fed_is w g c [] = sym (xor_zero_r c)
fed_is w g c (b ∷ bs) =
    let n = length bs in
    fed_is w g (feed w g c b) bs
    ∙ ap (λ k. bit_xor (times w g n k) (remainder w g bs)) (feed_is w g c b)
    ∙ ap (λ k. bit_xor k (remainder w g bs)) (times-xor w g n (shifted w g c) (cond b g 0))
    ∙ ap (λ k. bit_xor (bit_xor (times w g n (shifted w g c)) k) (remainder w g bs)) (times-bit w g n b)
    ∙ xor_assoc (times w g n (shifted w g c)) (cond b (power w g n) 0) (remainder w g bs)

pub past-check8 : (bs : List Bool) (m : Mark) → (past bs m).check8 ≡ fed 8 7 m.check8 bs
unfolding fed
past-check8 [] m = refl
past-check8 (b ∷ bs) m = past-check8 bs (step b m)

pub past-check16 : (bs : List Bool) (m : Mark) → (past bs m).check16 ≡ fed 16 32773 m.check16 bs
unfolding fed
past-check16 [] m = refl
past-check16 (b ∷ bs) m = past-check16 bs (step b m)

pub fed_from_zero : (w g : ℕ) (bs : List Bool) → fed w g 0 bs ≡ remainder w g bs
fed_from_zero w g bs = fed_is w g 0 bs ∙ ap (λ k. bit_xor k (remainder w g bs)) (times-zero w g (length bs)) ∙ xor_zero_l (remainder w g bs)

-- the check of bits that were read since the checks began
pub check8_is : (bs : List Bool) (m : Mark) → m.check8 ≡ 0 → (past bs m).check8 ≡ remainder 8 7 bs
check8_is bs m z = past-check8 bs m ∙ ap (λ k. fed 8 7 k bs) z ∙ fed_is 8 7 0 bs ∙ ap (λ k. bit_xor k (remainder 8 7 bs)) (times-zero 8 7 (length bs)) ∙ xor_zero_l (remainder 8 7 bs)

pub check16_is : (bs : List Bool) (m : Mark) → m.check16 ≡ 0 → (past bs m).check16 ≡ remainder 16 32773 bs
check16_is bs m z = past-check16 bs m ∙ ap (λ k. fed 16 32773 k bs) z ∙ fed_is 16 32773 0 bs ∙ ap (λ k. bit_xor k (remainder 16 32773 bs)) (times-zero 16 32773 (length bs)) ∙ xor_zero_l (remainder 16 32773 bs)

-- one more bit of a number, and one more byte
pub fed_bit : (w g n i check value : ℕ) → i < n → fed w g check (unsigned (n - i) value) ≡ fed w g (feed w g check (nat_eq (bit_and (value / 2 ^ (n - 1 - i)) 1) 1)) (unsigned (n - (i + 1)) value)
unfolding fed
fed_bit w g n i check value lt = ap (fed w g check) (number_rest n i value lt)

pub fed-append : (w g c : ℕ) (a b : List Bool) → fed w g c (a ++ b) ≡ fed w g (fed w g c a) b
unfolding fed
fed-append w g c [] b = refl
fed-append w g c (x ∷ a) b = fed-append w g (feed w g c x) a b

pub fed_byte : (w g check i : ℕ) (bytes : List ℕ) → i < length bytes → fed w g check (bits_of (take (i + 1) bytes)) ≡ fed w g (fed w g check (bits_of (take i bytes))) (unsigned 8 (get_or bytes i 0))
fed_byte w g check i bytes lt =
    ap (λ bs. fed w g check (bits_of bs)) (take_more bytes i 0 lt) ∙ ap (fed w g check) (bits_of-snoc (take i bytes) (get_or bytes i 0)) ∙ fed-append w g check (bits_of (take i bytes)) (unsigned 8 (get_or bytes i 0))
