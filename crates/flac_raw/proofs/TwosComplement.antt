-- A number of 1 to 4 bytes in two's complement, the lowest byte first.
use Rattle.std.proofs.Common.{◌≡◌, ◌≤◌, ◌<◌, ◌*◌, ◌-◌, ◌^◌, ℕ, zero, suc, ℤ, pos, negsuc, List, [], ◌∷◌, length, take, get_or, of_z, to_z, w32, w64, refl, ap, ◌∙◌, arith, inl, inr, FitsSigned}
use Rattle.std.specs.Int.{to_le_bytes, from_le_bytes}
use Rattle.std.proofs.Math.Nat.{pow-le-pow_right, pow-succ'}
use Rattle.std.proofs.lemmas.Int.{ints}
use Rattle.std.proofs.lemmas.Bool.{cases_lt, le-ltb, lt-ltb}
use Rattle.std.proofs.lemmas.Nat.{le_bytes_4}
use Rattle.byteorder.specs.Endian.{twos_complement, little_number}
use Rattle.flac_bits.specs.Signed.{FitsBits}
use Rattle.flac_native.specs.Message.{sample_bytes}

-- its sign is not set
positive : (n x : ℕ) → x < 2 ^ (8 * n - 1) → twos_complement n x ≡ pos x
positive n x lt = rw (lt-ltb x (2 ^ (8 * n - 1)) lt) refl

-- its sign is set
negative : (n x : ℕ) → 2 ^ (8 * n - 1) ≤ x → x < 2 ^ (8 * n) → twos_complement n x ≡ negsuc (2 ^ (8 * n) - 1 - x)
negative n x le lt = rw (le-ltb x (2 ^ (8 * n - 1)) le) (omega (arith, ints))

-- the bytes say a number below what they reach
pub little_small : (bs : List ℕ) → length bs ≤ 4 → ((i : ℕ) → get_or bs i 0 < 256) → little_number (length bs) bs < 2 ^ (8 * length bs)
little_small [] few small = omega arith
little_small (a ∷ []) few small = let p : a < 256 = small 0 in omega arith
little_small (a ∷ b ∷ []) few small = let p : a < 256 = small 0 in let q : b < 256 = small 1 in omega arith
little_small (a ∷ b ∷ c ∷ []) few small = let p : a < 256 = small 0 in let q : b < 256 = small 1 in let r : c < 256 = small 2 in omega arith
little_small (a ∷ b ∷ c ∷ d ∷ []) few small = let p : a < 256 = small 0 in let q : b < 256 = small 1 in let r : c < 256 = small 2 in let s : d < 256 = small 3 in omega arith
little_small (a ∷ b ∷ c ∷ d ∷ e ∷ bs) few small = absurd (omega arith)

-- it fits its bytes
pub twos_fit : (bs : List ℕ) → 1 ≤ length bs → length bs ≤ 4 → ((i : ℕ) → get_or bs i 0 < 256) → FitsBits (8 * length bs) (twos_complement (length bs) (little_number (length bs) bs))
twos_fit bs some few small =
    let n = length bs in
    let x : ℕ = little_number n bs in
    let lt : x < 2 ^ (8 * n) = little_small bs few small in
    let whole : 8 * n ≡ suc (8 * n - 1) = omega arith in
    let twice : 2 ^ (8 * n) ≡ 2 * 2 ^ (8 * n - 1) = ap (λ (e : ℕ). 2 ^ e) whole ∙ pow-succ' 2 (8 * n - 1) in
    elim (cases_lt x (2 ^ (8 * n - 1))) [
      | inl below ↦ rw (positive n x below) (record { low = omega (arith, ints); high = omega (arith, ints) })
      | inr above ↦ rw (negative n x above lt) (record { low = omega (arith, ints); high = omega (arith, ints) })
    ]

-- so it fits 32 bits
pub fits_word : (n : ℕ) (z : ℤ) → n ≤ 4 → FitsBits (8 * n) z → FitsSigned w32 z
fits_word n z few fits =
    let top : 2 ^ (8 * n - 1) ≤ 2 ^ 31 = pow-le-pow_right {n = 2} (omega arith) {i = 8 * n - 1} {j = 31} (omega arith) in
    let low = fits.low in
    let high = fits.high in
    omega (arith, ints)

-- and a cast to 32 bits keeps it
pub narrowed : (z : ℤ) → FitsSigned w32 z → to_z w32 (of_z w32 (to_z w64 (of_z w64 z))) ≡ z
narrowed z fits = omega (arith, ints)

small_four : (a b c d : ℕ) → a < 256 → b < 256 → c < 256 → d < 256 → (i : ℕ) → get_or (a ∷ b ∷ c ∷ d ∷ []) i 0 < 256
small_four a b c d p q r s zero = p
small_four a b c d p q r s (suc zero) = q
small_four a b c d p q r s (suc (suc zero)) = r
small_four a b c d p q r s (suc (suc (suc zero))) = s
small_four a b c d p q r s (suc (suc (suc (suc i)))) = omega arith

four_bytes : (a b c d n : ℕ) → a < 256 → b < 256 → c < 256 → d < 256 → n ≡ from_le_bytes w32 (a ∷ b ∷ c ∷ d ∷ []) → to_le_bytes w32 n ≡ a ∷ b ∷ c ∷ d ∷ []
four_bytes a b c d n p q r s is = le_bytes_4 (a ∷ b ∷ c ∷ d ∷ []) n refl (small_four a b c d p q r s) is

by_sign : (n x : ℕ) (bs : List ℕ) → x < 2 ^ (8 * n) → (x < 2 ^ (8 * n - 1) → sample_bytes n (pos x) ≡ bs)
    → (2 ^ (8 * n - 1) ≤ x → sample_bytes n (negsuc (2 ^ (8 * n) - 1 - x)) ≡ bs) → sample_bytes n (twos_complement n x) ≡ bs
by_sign n x bs lt below above = elim (cases_lt x (2 ^ (8 * n - 1))) [
  | inl h ↦ ap (sample_bytes n) (positive n x h) ∙ below h
  | inr h ↦ ap (sample_bytes n) (negative n x h lt) ∙ above h
]

-- its bytes are those that it was read from
pub twos_bytes : (bs : List ℕ) → length bs ≤ 4 → ((i : ℕ) → get_or bs i 0 < 256) → sample_bytes (length bs) (twos_complement (length bs) (little_number (length bs) bs)) ≡ bs
twos_bytes [] few small = refl
twos_bytes (a ∷ []) few small =
    let p : a < 256 = small 0 in
    by_sign 1 _ (a ∷ []) (little_small (a ∷ []) few small) (λ h. ap (take 1) (four_bytes a 0 0 0 _ p (omega arith) (omega arith) (omega arith) (omega arith)))
    (λ h. ap (take 1) (four_bytes a 255 255 255 _ p (omega arith) (omega arith) (omega arith) (omega arith)))
twos_bytes (a ∷ b ∷ []) few small =
    let p : a < 256 = small 0 in
    let q : b < 256 = small 1 in
    by_sign 2 _ (a ∷ b ∷ []) (little_small (a ∷ b ∷ []) few small) (λ h. ap (take 2) (four_bytes a b 0 0 _ p q (omega arith) (omega arith) (omega arith)))
    (λ h. ap (take 2) (four_bytes a b 255 255 _ p q (omega arith) (omega arith) (omega arith)))
twos_bytes (a ∷ b ∷ c ∷ []) few small =
    let p : a < 256 = small 0 in
    let q : b < 256 = small 1 in
    let r : c < 256 = small 2 in
    by_sign 3 _ (a ∷ b ∷ c ∷ []) (little_small (a ∷ b ∷ c ∷ []) few small) (λ h. ap (take 3) (four_bytes a b c 0 _ p q r (omega arith) (omega arith)))
    (λ h. ap (take 3) (four_bytes a b c 255 _ p q r (omega arith) (omega arith)))
twos_bytes (a ∷ b ∷ c ∷ d ∷ []) few small =
    let p : a < 256 = small 0 in
    let q : b < 256 = small 1 in
    let r : c < 256 = small 2 in
    let s : d < 256 = small 3 in
    by_sign 4 _ (a ∷ b ∷ c ∷ d ∷ []) (little_small (a ∷ b ∷ c ∷ d ∷ []) few small) (λ h. ap (take 4) (four_bytes a b c d _ p q r s (omega arith))) (λ h. ap (take 4) (four_bytes a b c d _ p q r s (omega arith)))
twos_bytes (a ∷ b ∷ c ∷ d ∷ e ∷ bs) few small = absurd (omega arith)
