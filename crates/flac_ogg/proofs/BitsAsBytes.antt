-- Whole bytes of bits, as numbers.
use Rattle.std.proofs.Common.{◌≡◌, ℕ, zero, suc, ◌+◌, ◌*◌, ◌/◌, ◌%◌, ◌^◌, ◌<◌, Bool, true, false, nat_eq, List, [], ◌∷◌, ◌++◌, length, take, drop, refl, ap, subst, ◌∙◌, arith}
use Rattle.std.proofs.Math.Nat.{pow-suc}
use Rattle.std.proofs.lemmas.List.{length-take-le, length-drop, take-append-drop}
use Rattle.std.proofs.lemmas.Nat.{div-mul-add}
use Rattle.flac_bits.specs.Bits.{unsigned, bits_of, bit_value}
use Rattle.flac_bits.specs.Forms.{AreBytes}
use Rattle.flac_bits.proofs.Readings.{unsigned_low}

-- the number whose bits these are
abbrev number : List Bool → ℕ
number [] = 0
number (b ∷ bs) = bit_value b * 2 ^ length bs + number bs

number_small : (bs : List Bool) → number bs < 2 ^ length bs
number_small [] = omega arith
number_small (true ∷ bs) = omega (arith, number_small bs, pow-suc 2 (length bs))
number_small (false ∷ bs) = omega (arith, number_small bs, pow-suc 2 (length bs))

top_bit : (b : Bool) → nat_eq (bit_value b % 2) 1 ≡ b
top_bit true = refl
top_bit false = refl

number_back : (bs : List Bool) → unsigned (length bs) (number bs) ≡ bs
number_back [] = refl
number_back (b ∷ bs) =
    let n = length bs in
    let v = bit_value b * 2 ^ n + number bs in
    let top : nat_eq (v / 2 ^ n % 2) 1 ≡ b = ap (λ q. nat_eq (q % 2) 1) (div-mul-add (bit_value b) (2 ^ n) (number bs) (number_small bs)) ∙ top_bit b in
    let low : unsigned n v ≡ bs = unsigned_low n (bit_value b) n (number bs) (omega arith) ∙ number_back bs in
    ap (λ (h : Bool). h ∷ unsigned n v) top ∙ ap (λ (l : List Bool). b ∷ l) low

-- n bytes of these bits
abbrev pub bytes_in : ℕ → List Bool → List ℕ
bytes_in zero t = []
bytes_in (suc n) t = number (take 8 t) ∷ bytes_in n (drop 8 t)

first_eight : (n : ℕ) (t : List Bool) → length t ≡ 8 * suc n → length (take 8 t) ≡ 8
first_eight n t e = length-take-le 8 t (omega (arith, e))

after_eight : (n : ℕ) (t : List Bool) → length t ≡ 8 * suc n → length (drop 8 t) ≡ 8 * n
after_eight n t e = omega (arith, e, length-drop 8 t)

-- so long, these bytes have these bits
pub bytes_back : (n : ℕ) (t : List Bool) → length t ≡ 8 * n → bits_of (bytes_in n t) ≡ t
bytes_back zero [] e = refl
bytes_back zero (b ∷ t) e = absurd (omega (arith, e))
bytes_back (suc n) t e =
    let first = take 8 t in
    let here : unsigned 8 (number first) ≡ first = subst (λ k. unsigned k (number first) ≡ first) (first_eight n t e) (number_back first) in
    ap (λ (l : List Bool). l ++ bits_of (bytes_in n (drop 8 t))) here ∙ ap (λ (l : List Bool). first ++ l) (bytes_back n (drop 8 t) (after_eight n t e)) ∙ take-append-drop 8 t

pub bytes_small : (n : ℕ) (t : List Bool) → length t ≡ 8 * n → AreBytes (bytes_in n t)
bytes_small zero t e = tt
bytes_small (suc n) t e = (subst (λ k. number (take 8 t) < 2 ^ k) (first_eight n t e) (number_small (take 8 t)), bytes_small n (drop 8 t) (after_eight n t e))
