-- For the proof of reading: the header as its codes and what comes after them.
use Rattle.std.specs.Prelude.{◌≡◌, ◌<◌, ℕ, Bool, false, not, nat_eq, nat_lt}
use Rattle.flac_bits.specs.Layout.{Layout, done, bits, check8, ◌>>=◌}
use Rattle.flac_bits.specs.Number.{number}
use Rattle.flac_bits.specs.declared.why.Why.TheVariants.{BadSync, ReservedCode, HeaderCheck}
use Rattle.flac_header.specs.Strategy.{is_variable}
use Rattle.flac_header.specs.declared.read.Codes.{Codes as CodesRead}
use Rattle.flac_header.specs.Header.{Header, unless, number_bits, size_field, rate_field}

-- whether the header has the number of its first sample, and its codes
pub record Codes : Type 0 where
  pub variable : Bool
  pub size_code : ℕ
  pub rate_code : ℕ
  pub channel_code : ℕ
  pub depth_code : ℕ

-- the fields before the coded number
unfoldable pub codes : Layout Codes
codes = do
  sync ← bits 15
  _ ← unless (not (nat_eq sync 0x7FFC)) BadSync
  variable ← bits 1
  size_code ← bits 4
  _ ← unless (nat_eq size_code 0) ReservedCode
  rate_code ← bits 4
  _ ← unless (nat_eq rate_code 15) ReservedCode
  channel_code ← bits 4
  _ ← unless (nat_lt 10 channel_code) ReservedCode
  depth_code ← bits 3
  _ ← unless (nat_eq depth_code 3) ReservedCode
  reserved ← bits 1
  _ ← unless (not (nat_eq reserved 0)) ReservedCode
  done (record { variable = nat_eq variable 1; size_code = size_code; rate_code = rate_code; channel_code = channel_code; depth_code = depth_code })

-- those that a program read
abbrev pub codes_of : CodesRead → Codes
codes_of k = record { variable = is_variable k.strategy; size_code = k.size_code; rate_code = k.rate_code; channel_code = k.channel_code; depth_code = k.depth_code }

-- and none of them is reserved (RFC 9639, sections 9.1.1 to 9.1.4)
abbrev pub AreValid : CodesRead → Type 0
AreValid k = (0 < k.size_code) × (k.size_code < 16) × (k.rate_code < 15) × (k.channel_code < 11) × (k.depth_code < 8) × (nat_eq k.depth_code 3 ≡ false)

-- the fields from the coded number on
unfoldable pub after_codes : Codes → Layout Header
after_codes k = do
  count ← number (number_bits k.variable)
  size ← size_field k.size_code
  rate ← rate_field k.rate_code
  check ← check8
  stored ← bits 8
  _ ← unless (not (nat_eq stored check)) HeaderCheck
  done (record { variable = k.variable; size_code = k.size_code; size = size; rate_code = k.rate_code; rate = rate; channel_code = k.channel_code; depth_code = k.depth_code; number = count })
