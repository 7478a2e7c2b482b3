-- An index into a table of 256 entries of 32 bits, and a byte of eight.
use Rattle.std.proofs.Common.{◌≡◌, ℕ, ◌*◌, ◌/◌, ◌%◌, ◌^◌, ◌<◌, List, length, bit_xor, arith, Fits, w8, w32, w64}
use Rattle.std.proofs.Math.Facts.{Fits-lt-pow, Fits-of_lt}
use Rattle.std.proofs.lemmas.Nat.{xor_lt}

pub byte_of_eight : (k : ℕ) (bytes : List ℕ) → length bytes ≡ 8 → k < 8 → k < length bytes
byte_of_eight k bytes long lt = omega (arith, long, lt)

pub byte_index : (x : ℕ) → Fits w8 x → x < 256
byte_index x f = Fits-lt-pow f

pub byte_widened : (x : ℕ) → Fits w8 x → Fits w64 x
byte_widened x f = let lt : x < 256 = Fits-lt-pow f in Fits-of_lt (omega (arith, lt))

pub byte_offset : (x : ℕ) → Fits w8 x → Fits w64 (x * 4)
byte_offset x f = let lt : x < 256 = Fits-lt-pow f in Fits-of_lt (omega (arith, lt))

pub mixed_fits : (c x : ℕ) → Fits w8 c → Fits w8 x → Fits w8 (bit_xor c x)
mixed_fits c x fc fx = Fits-of_lt (xor_lt 8 c x (Fits-lt-pow fc) (Fits-lt-pow fx))

pub high_fits : (c : ℕ) → c < 2 ^ 16 → Fits w8 (c / 256)
high_fits c lt = Fits-of_lt (omega (arith, lt))

pub low_fits : (c : ℕ) → Fits w8 (c % 256)
low_fits c = Fits-of_lt (omega arith)

pub top_fits : (c : ℕ) → Fits w32 c → Fits w8 (c / 16777216)
top_fits c f = let lt : c < 4294967296 = Fits-lt-pow f in Fits-of_lt (omega (arith, lt))
