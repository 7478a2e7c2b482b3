-- The codes that a writer chooses for a block size, a rate and a depth.
use Rattle.std.specs.Prelude.{◌≡◌, ◌≤◌, ◌<◌, ℕ, ◌%◌, ◌^◌, ◌&&◌, ◌||◌, false, cond, nat_eq, nat_lt, nat_le, Option, Some, None}
use Rattle.std.specs.Option.{option_or}
use Rattle.flac_header.specs.Header.{Header, rate_of_code, depth_of}
use Rattle.flac_header.specs.declared.subset.Profile.{Profile}
use Rattle.flac_header.specs.declared.subset.Profile.TheVariants.{Subset, Lax}

-- the code that names the size if there is one, else 6 for up to 256 samples, else 7 (RFC 9639, section 9.1.1)
unfoldable pub size_choice : ℕ → Option ℕ
size_choice size =
    cond (nat_eq size 192) (Some 1) (cond (nat_eq size 576) (Some 2) (cond (nat_eq size 1152) (Some 3) (cond (nat_eq size 2304) (Some 4) (cond (nat_eq size 4608) (Some 5)
    (cond (nat_eq size 256) (Some 8) (cond (nat_eq size 512) (Some 9) (cond (nat_eq size 1024) (Some 10) (cond (nat_eq size 2048) (Some 11) (cond (nat_eq size 4096) (Some 12)
    (cond (nat_eq size 8192) (Some 13) (cond (nat_eq size 16384) (Some 14) (cond (nat_eq size 32768) (Some 15)
    (cond (nat_eq size 0) None (cond (nat_le size 256) (Some 6) (cond (nat_le size 65535) (Some 7) None)))))))))))))))

-- the code that names the rate if there is one, else 12 for thousands up to 255000 Hz, else 13 up to 65535 Hz, else 14
-- for tens up to 655350 Hz (section 9.1.2)
unfoldable pub rate_choice : ℕ → Option ℕ
rate_choice rate =
    cond (nat_eq rate 88200) (Some 1) (cond (nat_eq rate 176400) (Some 2) (cond (nat_eq rate 192000) (Some 3) (cond (nat_eq rate 8000) (Some 4) (cond (nat_eq rate 16000) (Some 5)
    (cond (nat_eq rate 22050) (Some 6) (cond (nat_eq rate 24000) (Some 7) (cond (nat_eq rate 32000) (Some 8) (cond (nat_eq rate 44100) (Some 9) (cond (nat_eq rate 48000) (Some 10)
    (cond (nat_eq rate 96000) (Some 11) (cond (nat_eq rate 0) None (cond (nat_eq (rate % 1000) 0 && nat_le rate 255000) (Some 12) (cond (nat_le rate 65535) (Some 13)
    (cond (nat_eq (rate % 10) 0 && nat_le rate 655350) (Some 14) None))))))))))))))

-- the code of a depth (section 9.1.4)
unfoldable pub depth_choice : ℕ → Option ℕ
depth_choice depth =
    cond (nat_eq depth 8) (Some 1) (cond (nat_eq depth 12) (Some 2) (cond (nat_eq depth 16) (Some 4) (cond (nat_eq depth 20) (Some 5) (cond (nat_eq depth 24) (Some 6) (cond (nat_eq depth 32) (Some 7) None)))))

-- The code of a rate under a profile. Outside the subset code 0 leaves a rate that has no other code to STREAMINFO,
-- which has those from 1 to 1048575 Hz (sections 8.2 and 9.1.2).
unfoldable pub rate_choice_in : Profile → ℕ → Option ℕ
rate_choice_in Subset rate = rate_choice rate
rate_choice_in Lax rate = cond (nat_eq rate 0 || nat_lt 1048575 rate) None (option_or (rate_choice rate) (Some 0))

-- The code of a depth under a profile. Outside the subset code 0 leaves a depth that has no other code to STREAMINFO,
-- which has those from 4 to 32 bits (sections 8.2 and 9.1.4).
unfoldable pub depth_choice_in : Profile → ℕ → Option ℕ
depth_choice_in Subset depth = depth_choice depth
depth_choice_in Lax depth = cond (nat_lt depth 4 || nat_lt 32 depth) None (option_or (depth_choice depth) (Some 0))

-- the rate that a header names: 0 if its code leaves it to STREAMINFO
abbrev pub stated_rate : (code rate : ℕ) → ℕ
stated_rate code rate = cond (nat_eq code 0) 0 rate

abbrev pub with_codes : Option ℕ → Option ℕ → Option ℕ → (size rate channel_code number : ℕ) → Option Header
with_codes (Some s) (Some r) (Some d) size rate channel_code number =
    Some (record { variable = false; size_code = s; size = size; rate_code = r; rate = stated_rate r rate; channel_code = channel_code; depth_code = d; number = number })
with_codes (Some s) (Some r) None size rate channel_code number = None
with_codes (Some s) None d size rate channel_code number = None
with_codes None r d size rate channel_code number = None

-- the header of a frame with a frame number, under the chosen codes; None if a value has no code
unfoldable pub chosen_header : Profile → (size rate channel_code depth number : ℕ) → Option Header
chosen_header profile size rate channel_code depth number =
    cond (nat_lt 10 channel_code || nat_le (2 ^ 31) number) None (with_codes (size_choice size) (rate_choice_in profile rate) (depth_choice_in profile depth) size rate channel_code number)

-- A rate or a depth that a code names is written with that code: the tables above are the inverse of those of a reader
-- (sections 9.1.2 and 9.1.4).
pub record CodesAreInverse : Type 0 where
  pub rates : (code : ℕ) → 1 ≤ code → code < 12 → rate_choice (rate_of_code code) ≡ Some code
  pub depths : (code : ℕ) → code < 8 → 0 < depth_of code → depth_choice (depth_of code) ≡ Some code
