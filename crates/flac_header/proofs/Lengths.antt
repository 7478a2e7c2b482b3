-- How long a header is.
use Rattle.std.proofs.Common.{◌≡◌, ◌≢◌, ◌∙◌, refl, ap, ℕ, zero, suc, ◌+◌, ◌-◌, ◌*◌, ◌/◌, ◌%◌, ◌^◌, ◌≤◌, arith, Bool, true, false, cond, nat_eq, nat_lt, List, [], ◌∷◌, length, length-append}
use Rattle.std.proofs.lemmas.Bool.{ne_eqb}
use Rattle.flac_bits.specs.Bits.{unsigned, bit_value}
use Rattle.flac_bits.specs.Check.{remainder}
use Rattle.flac_bits.specs.Coded.{six_bits, in_bytes, number_spelling}
use Rattle.flac_bits.specs.Forms.{joined}
use Rattle.flac_bits.proofs.Words.{length-unsigned}
use Rattle.flac_header.specs.Header.{Header}
use Rattle.flac_header.specs.Spelling.{size_spelling, rate_spelling, header_parts, header_front, header_spelling}

six_long : (n v : ℕ) → length (six_bits n v) ≡ 8 * n
unfolding six_bits
six_long zero v = refl
six_long (suc n) v = omega (arith, length-append (unsigned 8 (128 + v / 64 ^ n % 64)) (six_bits n v), length-unsigned 8 (128 + v / 64 ^ n % 64), six_long n v)

either_few : (b : Bool) (n : ℕ) (xs ys : List Bool) → length xs ≤ n → length ys ≤ n → length (cond b xs ys) ≤ n
either_few true n xs ys h k = h
either_few false n xs ys h k = k

bytes_few : (lead n v : ℕ) → n ≤ 6 → length (in_bytes lead n v) ≤ 56
bytes_few lead n v few = omega (arith, length-append (unsigned 8 (lead + v / 64 ^ n)) (six_bits n v), length-unsigned 8 (lead + v / 64 ^ n), six_long n v, few)

number_few : (v : ℕ) → length (number_spelling v) ≤ 56
unfolding number_spelling
number_few v =
    let b1 = bytes_few 0xC0 1 v (omega arith) in
    let b2 = bytes_few 0xE0 2 v (omega arith) in
    let b3 = bytes_few 0xF0 3 v (omega arith) in
    let b4 = bytes_few 0xF8 4 v (omega arith) in
    let b5 = bytes_few 0xFC 5 v (omega arith) in
    let b6 = bytes_few 0xFE 6 v (omega arith) in
    let one : length (unsigned 8 v) ≤ 56 = omega (arith, length-unsigned 8 v) in
    let a5 = either_few (nat_lt v (2 ^ 31)) 56 _ _ b5 b6 in
    let a4 = either_few (nat_lt v (2 ^ 26)) 56 _ _ b4 a5 in
    let a3 = either_few (nat_lt v (2 ^ 21)) 56 _ _ b3 a4 in
    let a2 = either_few (nat_lt v (2 ^ 16)) 56 _ _ b2 a3 in
    let a1 = either_few (nat_lt v (2 ^ 11)) 56 _ _ b1 a2 in
    either_few (nat_lt v (2 ^ 7)) 56 _ _ one a1

abbrev nothing : List Bool
nothing = []

no_bits : length nothing ≤ 16
no_bits = omega arith

size_few : (code size : ℕ) → length (size_spelling code size) ≤ 16
unfolding size_spelling
size_few code size =
    let a : length (unsigned 8 (size - 1)) ≤ 16 = omega (arith, length-unsigned 8 (size - 1)) in
    let b : length (unsigned 16 (size - 1)) ≤ 16 = omega (arith, length-unsigned 16 (size - 1)) in
    either_few (nat_eq code 6) 16 _ _ a (either_few (nat_eq code 7) 16 _ _ b no_bits)

rate_few : (code rate : ℕ) → length (rate_spelling code rate) ≤ 16
unfolding rate_spelling
rate_few code rate =
    let a : length (unsigned 8 (rate / 1000)) ≤ 16 = omega (arith, length-unsigned 8 (rate / 1000)) in
    let b : length (unsigned 16 rate) ≤ 16 = omega (arith, length-unsigned 16 rate) in
    let d : length (unsigned 16 (rate / 10)) ≤ 16 = omega (arith, length-unsigned 16 (rate / 10)) in
    either_few (nat_eq code 12) 16 _ _ a (either_few (nat_eq code 13) 16 _ _ b (either_few (nat_eq code 14) 16 _ _ d no_bits))

pub size_none : (code size : ℕ) → code ≢ 6 → code ≢ 7 → length (size_spelling code size) ≡ 0
unfolding size_spelling
size_none code size a b = rw (ne_eqb code 6 a, ne_eqb code 7 b) refl

pub rate_none : (code rate : ℕ) → code ≢ 12 → code ≢ 13 → code ≢ 14 → length (rate_spelling code rate) ≡ 0
unfolding rate_spelling
rate_none code rate a b d = rw (ne_eqb code 12 a, ne_eqb code 13 b, ne_eqb code 14 d) refl

abbrev lengths : List (List Bool) → ℕ
lengths [] = 0
lengths (part ∷ parts) = length part + lengths parts

length-joined : (parts : List (List Bool)) → length (joined parts) ≡ lengths parts
length-joined [] = refl
length-joined (part ∷ parts) = length-append part (joined parts) ∙ ap (λ n. length part + n) (length-joined parts)

-- all of it but the number and what the codes ask for takes 40 bits
pub header_long : (h : Header) → length (header_spelling h) ≡ 40 + length (number_spelling h.number) + length (size_spelling h.size_code h.size) + length (rate_spelling h.rate_code h.rate)
unfolding header_parts
header_long h = omega (
  arith,
  length-append (header_front h) (unsigned 8 (remainder 8 7 (header_front h))),
  length-unsigned 8 (remainder 8 7 (header_front h)),
  length-joined (header_parts h),
  length-unsigned 15 0x7FFC,
  length-unsigned 1 (bit_value h.variable),
  length-unsigned 4 h.size_code,
  length-unsigned 4 h.rate_code,
  length-unsigned 4 h.channel_code,
  length-unsigned 3 h.depth_code,
  length-unsigned 1 0,
)

pub header_few : (h : Header) → length (header_spelling h) ≤ 128
header_few h = omega (arith, header_long h, number_few h.number, size_few h.size_code h.size, rate_few h.rate_code h.rate)

-- the bytes of the number, and of what the codes ask for
pub header_counted : {h k : Header} (n s r : ℕ) → h ≡ k → length (number_spelling h.number) ≡ 8 * n → length (size_spelling h.size_code h.size) ≡ 8 * s → length (rate_spelling h.rate_code h.rate) ≡ 8 * r → length (header_spelling k) ≡ 8 * (5 + n + s + r)
header_counted {h} n s r e a b c = rw (← e) (omega (arith, header_long h, a, b, c))
