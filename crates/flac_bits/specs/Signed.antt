-- Signed numbers in two's complement (RFC 9639, section 5).
use Rattle.std.specs.Prelude.{ℕ, ℤ, pos, negsuc, neg_ℤ, ◌≤ℤ◌, ◌<ℤ◌, ◌-◌, ◌%◌, ◌^◌, Bool, cond, nat_lt, List}
use Rattle.flac_bits.specs.Bits.{unsigned}
use Rattle.flac_bits.specs.Layout.{Layout, done, bits, ◌>>=◌}

-- the remainder of a number by 2^n
abbrev pub modulo : ℕ → ℤ → ℕ
modulo n (pos a) = a % 2 ^ n
modulo n (negsuc a) = 2 ^ n - 1 - a % 2 ^ n

-- the n bits of a signed number
abbrev pub signed : ℕ → ℤ → List Bool
signed n z = unsigned n (modulo n z)

-- the signed number that the n bits of a number spell: negative if the first bit is set
abbrev pub to_signed : ℕ → ℕ → ℤ
to_signed n v = cond (nat_lt v (2 ^ (n - 1))) (pos v) (negsuc (2 ^ n - 1 - v))

-- a signed number of n bits
unfoldable pub signed_field : ℕ → Layout ℤ
signed_field n = do
  v ← bits n
  done (to_signed n v)

-- z is a two's complement number of n bits
pub record FitsBits (n : ℕ) (z : ℤ) : Type 0 where
  pub low : neg_ℤ (pos (2 ^ (n - 1))) ≤ℤ z
  pub high : z <ℤ pos (2 ^ (n - 1))
