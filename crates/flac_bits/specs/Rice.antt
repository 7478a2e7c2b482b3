-- Values under a Rice code (RFC 9639, sections 9.2.7.2 and 9.2.7.3).
use Rattle.std.specs.Prelude.{ℕ, ℤ, pos, negsuc, neg_ℤ, Bool, List, ◌++◌, ◌<ℤ◌, ◌+◌, ◌-◌, ◌*◌, ◌/◌, ◌%◌, ◌^◌, Option, Some, None, cond, nat_eq, nat_lt}
use Rattle.flac_bits.specs.Bits.{unsigned}
use Rattle.flac_bits.specs.Layout.{Layout, done, bits, unary, refuse, ◌>>=◌, choose}
use Rattle.flac_bits.specs.Meaning.{unary_bits}
use Rattle.flac_bits.specs.declared.why.Why.TheVariants.{ResidualRange}

abbrev pub within : Option ℕ → Layout ℕ
within (Some q) = done q
within None = refuse ResidualRange

-- a Rice code: the quotient as zeros and a one, and the lowest k bits
unfoldable pub rice : ℕ → ℕ → Layout ℕ
rice k limit = do
  zeros ← unary limit
  quotient ← within zeros
  low ← bits k
  done (quotient * 2 ^ k + low)

-- the signed number of a folded one: r of 2r, and -r - 1 of 2r + 1
abbrev pub unfolded : ℕ → ℤ
unfolded f = cond (nat_eq (f % 2) 0) (pos (f / 2)) (negsuc (f / 2))

-- A residual value. It lies strictly between -2^31 and 2^31, so its folded number is at most 2^32 - 2.
unfoldable pub rice_value : ℕ → Layout ℤ
rice_value k = do
  folded ← rice k ((2 ^ 32 - 2) / 2 ^ k)
  choose (nat_lt (2 ^ 32 - 2) folded) (refuse ResidualRange) (done (unfolded folded))

-- a residual value lies strictly between -2^31 and 2^31
pub record IsResidual (z : ℤ) : Type 0 where
  pub low : neg_ℤ (pos (2 ^ 31)) <ℤ z
  pub high : z <ℤ pos (2 ^ 31)

-- The folded number of a signed one: 2r if r is not negative, else -2r - 1.
abbrev pub folded : ℤ → ℕ
folded (pos n) = 2 * n
folded (negsuc n) = 2 * n + 1

-- a value under the Rice parameter k: the quotient of its folded number as zeros and a one, and the lowest k bits
abbrev pub value_bits : ℕ → ℤ → List Bool
value_bits k r = unary_bits (folded r / 2 ^ k) ++ unsigned k (folded r)
