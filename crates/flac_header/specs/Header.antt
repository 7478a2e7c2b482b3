-- The header of a frame (RFC 9639, section 9.1).
use Rattle.std.specs.Prelude.{◌≡◌, ℕ, ◌+◌, ◌*◌, ◌%◌, ◌^◌, ◌<◌, ◌≤◌, ◌&&◌, Bool, true, false, not, [], ◌∷◌, nat_eq, nat_lt, nat_le, cond, ⊤}
use Rattle.flac_bits.specs.Layout.{Layout, done, bits, judge, check8, ◌>>=◌, choose}
use Rattle.flac_bits.specs.Number.{number}
use Rattle.flac_bits.specs.Coded.{IsNumber}
use Rattle.flac_bits.specs.declared.why.Why.{Why}
use Rattle.flac_bits.specs.declared.why.Why.TheVariants.{BadSync, ReservedCode, HeaderCheck}
use Rattle.flac_header.specs.declared.subset.Profile.{Profile}
use Rattle.flac_header.specs.declared.subset.Profile.TheVariants.{Subset, Lax}

-- Whether a frame has the number of its first sample, the codes, and what they name: the block size in samples, and the
-- sample rate in Hz, 0 if the code leaves it to STREAMINFO.
pub record Header : Type 0 where
  pub variable : Bool
  pub size_code : ℕ
  pub size : ℕ
  pub rate_code : ℕ
  pub rate : ℕ
  pub channel_code : ℕ
  pub depth_code : ℕ
  pub number : ℕ

-- one rule at the end of a field
abbrev pub unless : Bool → Why → Layout ⊤
unless broken why = judge (record { broken = broken; why = why } ∷ [])

-- the block size by its code (section 9.1.1), and by the field that codes 6 and 7 ask for (section 9.1.6)
unfoldable pub size_field : ℕ → Layout ℕ
size_field code =
    choose (nat_eq code 1) (done 192)
    (choose (nat_lt code 6) (done (144 * 2 ^ code))
    (choose (nat_eq code 6) (do
      v ← bits 8
      done (v + 1))
    (choose (nat_eq code 7) (do
      v ← bits 16
      _ ← unless (nat_eq v 65535) ReservedCode
      done (v + 1))
    (done (2 ^ code)))))

-- the rate in Hz that a code names by itself (section 9.1.2)
abbrev pub rate_of_code : ℕ → ℕ
rate_of_code code =
    cond (nat_eq code 1) 88200 (cond (nat_eq code 2) 176400 (cond (nat_eq code 3) 192000 (cond (nat_eq code 4) 8000
    (cond (nat_eq code 5) 16000 (cond (nat_eq code 6) 22050 (cond (nat_eq code 7) 24000 (cond (nat_eq code 8) 32000
    (cond (nat_eq code 9) 44100 (cond (nat_eq code 10) 48000 (cond (nat_eq code 11) 96000 0))))))))))

-- the rate by its code (section 9.1.2), and by the field that codes 12 to 14 ask for (section 9.1.7)
unfoldable pub rate_field : ℕ → Layout ℕ
rate_field code =
    choose (nat_lt code 12) (done (rate_of_code code))
    (choose (nat_eq code 12) (do
      v ← bits 8
      done (v * 1000))
    (choose (nat_eq code 13) (bits 16) (do
      v ← bits 16
      done (v * 10))))

-- the number of channels of a code (section 9.1.3): codes 8 to 10 are decorrelated stereo channels
abbrev pub channels_of : ℕ → ℕ
channels_of code = cond (nat_lt code 8) (code + 1) 2

-- the bits per sample of a code, 0 if it leaves them to STREAMINFO (section 9.1.4)
abbrev pub depth_of : ℕ → ℕ
depth_of code =
    cond (nat_eq code 1) 8 (cond (nat_eq code 2) 12 (cond (nat_eq code 4) 16 (cond (nat_eq code 5) 20
    (cond (nat_eq code 6) 24 (cond (nat_eq code 7) 32 0)))))

-- the most bits of a coded number: first samples have 36, frame numbers 31 (section 9.1.5)
abbrev pub number_bits : Bool → ℕ
number_bits variable = cond variable 36 31

-- the fields in their order: sync code, blocking strategy, codes, coded number, what the codes ask for, and the check
unfoldable pub header : Layout Header
header = do
  sync ← bits 15
  _ ← unless (not (nat_eq sync 0x7FFC)) BadSync
  variable ← bits 1
  size_code ← bits 4
  _ ← unless (nat_eq size_code 0) ReservedCode
  rate_code ← bits 4
  _ ← unless (nat_eq rate_code 15) ReservedCode
  channel_code ← bits 4
  _ ← unless (nat_lt 10 channel_code) ReservedCode
  depth_code ← bits 3
  _ ← unless (nat_eq depth_code 3) ReservedCode
  reserved ← bits 1
  _ ← unless (not (nat_eq reserved 0)) ReservedCode
  count ← number (number_bits (nat_eq variable 1))
  size ← size_field size_code
  rate ← rate_field rate_code
  check ← check8
  stored ← bits 8
  _ ← unless (not (nat_eq stored check)) HeaderCheck
  done (record { variable = nat_eq variable 1; size_code = size_code; size = size; rate_code = rate_code; rate = rate; channel_code = channel_code; depth_code = depth_code; number = count })

-- the block size that a code names by itself (section 9.1.1)
abbrev pub size_of_code : ℕ → ℕ
size_of_code code = cond (nat_eq code 1) 192 (cond (nat_lt code 6) (144 * 2 ^ code) (2 ^ code))

-- the smallest and the largest block size of a code
abbrev pub least_size : ℕ → ℕ
least_size code = cond (nat_eq code 6) 1 (cond (nat_eq code 7) 1 (size_of_code code))

abbrev pub greatest_size : ℕ → ℕ
greatest_size code = cond (nat_eq code 6) 256 (cond (nat_eq code 7) 65535 (size_of_code code))

-- the smallest and the largest rate of a code, and the unit of the field that it asks for
abbrev pub least_rate : ℕ → ℕ
least_rate code = cond (nat_lt code 12) (rate_of_code code) 0

abbrev pub greatest_rate : ℕ → ℕ
greatest_rate code = cond (nat_lt code 12) (rate_of_code code) (cond (nat_eq code 12) 255000 (cond (nat_eq code 13) 65535 655350))

abbrev pub rate_unit : ℕ → ℕ
rate_unit code = cond (nat_eq code 12) 1000 (cond (nat_eq code 14) 10 1)

pub record IsSize (code size : ℕ) : Type 0 where
  pub least : least_size code ≤ size
  pub greatest : size ≤ greatest_size code

pub record IsRate (code rate : ℕ) : Type 0 where
  pub least : least_rate code ≤ rate
  pub greatest : rate ≤ greatest_rate code
  pub whole : rate % rate_unit code ≡ 0

-- no code is reserved, and size, rate and number are in the ranges of their codes
pub record IsHeader (h : Header) : Type 0 where
  pub some_size : 1 ≤ h.size_code
  pub size_code : h.size_code < 16
  pub size : IsSize h.size_code h.size
  pub rate_code : h.rate_code < 15
  pub rate : IsRate h.rate_code h.rate
  pub channel_code : h.channel_code < 11
  pub depth_code : h.depth_code < 8
  pub no_depth : nat_eq h.depth_code 3 ≡ false
  pub number : IsNumber (number_bits h.variable) h.number

-- the longest block of the streamable subset at a rate (section 7)
abbrev pub greatest_block : ℕ → ℕ
greatest_block rate = cond (nat_le rate 48000) 4608 16384

-- the longest block that a profile allows at a rate: outside the subset the longest that a header can name
-- (section 9.1.1)
abbrev pub greatest_in : Profile → ℕ → ℕ
greatest_in Subset rate = greatest_block rate
greatest_in Lax rate = 65535

-- A stream of the profile may have blocks of `size` samples at a rate: 16 samples or more (section 8.2), and at most the
-- longest block.
abbrev pub allows_block : Profile → (size rate : ℕ) → Bool
allows_block profile size rate = nat_le 16 size && nat_le size (greatest_in profile rate)

-- The streamable subset (section 7): the header names rate and depth, and blocks are not too long for their rate.
-- Outside it each header is allowed.
unfoldable pub allowed : Profile → Header → Bool
allowed Subset h = not (nat_eq h.rate_code 0) && not (nat_eq h.depth_code 0) && nat_le h.size (greatest_block h.rate)
allowed Lax h = true
