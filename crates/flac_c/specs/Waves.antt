-- WAV files as C sees them: what a file in memory is, its samples as numbers, and the head of a plain file.
use Rattle.std.specs.Prelude.{◌≡◌, ◌⊎◌, ℕ, zero, suc, ◌+◌, ◌*◌, ◌/◌, ◌%◌, ◌-◌, ◌^◌, ◌&&◌, ◌||◌, ℤ, pos, ◌-ℤ◌, Bool, false, cond, nat_lt, nat_eq, List, [], ◌∷◌, ◌++◌, length, take, drop, slice_index_or, Option, Some, None}
use Rattle.std.specs.Int.{int_shr, cast_unsigned, w32}
use Rattle.byteorder.specs.Endian.{little_bytes, little_number, twos_complement}
use Rattle.flac_frame.specs.declared.setup.SetupFault.{SetupFault}
use Rattle.flac_frame.specs.declared.setup.SetupFault.TheVariants as setup
use Rattle.flac_wave.specs.Plain.{plain_format, plain_head}
use Rattle.flac_wave.specs.Reasons.{number_of}
use Rattle.flac_wave.specs.Shift.{depth_in, wave_width_of}
use Rattle.flac_wave.specs.Wave.{Parts, IsWave, IsNoWave, all_of}
use Rattle.flac_wave.specs.declared.why.WaveWhy.{WaveWhy}
use Rattle.flac_wave.specs.declared.why.WaveWhy.TheVariants.{FormatFields, PartSample}
use Rattle.flac_c.specs.declared.waves.FlacProvedWave.{FlacProvedWave}

-- ---- a file

-- The format and the place of the samples of a file of these parts. `bits` is the depth of a stream of them: the bits that
-- count, if a frame header can state their number (RFC 9639, section 9.1.4) and the bits below them are zeros in all
-- samples; else all bits of their bytes.
abbrev pub wave_in_c : Parts → FlacProvedWave
wave_in_c p = record {
  offset = length (all_of p.pieces);
  len = length p.samples;
  rate = p.format.rate;
  channels = p.format.channels;
  bits = depth_in p.format p.samples;
  width = wave_width_of p.format;
}

-- the bytes are a WAV file, and this describes it: its samples are where it says
pub record DescribesWave (bytes : List ℕ) (w : FlacProvedWave) : Type 0 where
  pub parts : Parts
  pub wave : IsWave false bytes parts
  pub is : w ≡ wave_in_c parts
  pub samples : take w.len (drop w.offset bytes) ≡ parts.samples

-- the bytes are no WAV file, and this is the number of the reason
abbrev pub HasWaveFault : (bytes : List ℕ) → (number : ℕ) → Type 0
HasWaveFault bytes number = (at : Option ℕ) × (why : WaveWhy) × IsNoWave false bytes at why × (number ≡ number_of why)

-- memory ran out, or this is the number of the reason
abbrev pub RefusesWave : (bytes : List ℕ) → (number : ℕ) → Type 0
RefusesWave bytes number = (number ≡ 2) ⊎ HasWaveFault bytes number

-- ---- its samples: each has `width` bytes, the lowest first, of which the highest `bits` bits count

-- 1 to 4 bytes, and 1 bit at least, but no more than they have
abbrev pub is_form : (width bits : ℕ) → Bool
is_form width bits = nat_lt 0 width && (nat_lt width 5 && (nat_lt 0 bits && nat_lt bits (8 * width + 1)))

-- why bytes are not samples of this form, and why numbers cannot be
unfoldable pub form_fault : (width bits : ℕ) → Option WaveWhy
form_fault width bits = cond (is_form width bits) None (Some FormatFields)

unfoldable pub samples_fault : (width bits size : ℕ) → Option WaveWhy
samples_fault width bits size = cond (is_form width bits) (cond (nat_eq (size % width) 0) None (Some PartSample)) (Some FormatFields)

-- the number that all bits of a sample are: in two's complement, but a byte alone is unsigned, and 128 is silence
abbrev pub whole_number : (sample : List ℕ) → ℤ
whole_number sample =
    cond (nat_eq (length sample) 1) (pos (little_number 1 sample) -ℤ pos 128)
    (twos_complement (length sample) (little_number (length sample) sample))

-- the number of a sample: the bits below its highest `bits` bits are dropped
abbrev pub wave_number : (bits : ℕ) → (sample : List ℕ) → ℤ
wave_number bits sample = int_shr (whole_number sample) (8 * length sample - bits)

-- the first n samples
unfoldable pub wave_numbers : (width bits : ℕ) → (bytes : List ℕ) → (n : ℕ) → List ℤ
wave_numbers width bits bytes zero = []
wave_numbers width bits bytes (suc n) = wave_numbers width bits bytes n ++ wave_number bits (take width (drop (n * width) bytes)) ∷ []

-- all samples
abbrev pub numbers_of : (width bits : ℕ) → (bytes : List ℕ) → List ℤ
numbers_of width bits bytes = wave_numbers width bits bytes (length bytes / width)

-- A number as a sample: its lowest `bits` bits are the highest of `width` bytes, and the bits below them are zeros; in a
-- byte alone 128 is added.
abbrev pub high_number : (width bits : ℕ) → ℤ → ℕ
high_number width bits z = (cast_unsigned w32 z * 2 ^ (8 * width - bits) + cond (nat_eq width 1) 128 0) % 2 ^ (8 * width)

abbrev pub sample_of : (width bits : ℕ) → ℤ → List ℕ
sample_of width bits z = little_bytes width (high_number width bits z)

-- the first n numbers as samples
unfoldable pub wave_samples : (width bits : ℕ) → (numbers : List ℤ) → (n : ℕ) → List ℕ
wave_samples width bits numbers zero = []
wave_samples width bits numbers (suc n) = wave_samples width bits numbers n ++ sample_of width bits (slice_index_or numbers n (pos 0))

-- all numbers
abbrev pub samples_of : (width bits : ℕ) → (numbers : List ℤ) → List ℕ
samples_of width bits numbers = wave_samples width bits numbers (length numbers)

-- ---- the head of a plain file

-- The first reason why there is none: no 1 to 8 channels, a rate of 2^27 Hz or more, no 1 to 32 bits, or 2^36 samples of
-- each channel or more.
unfoldable pub head_fault : (rate channels bits total : ℕ) → Option SetupFault
head_fault rate channels bits total =
    cond (nat_eq channels 0 || nat_lt 8 channels) (Some setup.BadChannels)
    (cond (nat_lt 134217727 rate) (Some setup.BadRate)
    (cond (nat_eq bits 0 || nat_lt 32 bits) (Some setup.BadDepth)
    (cond (nat_lt 68719476735 total) (Some setup.TooLong) None)))

-- what comes before `total` inter-channel samples of `bits` bits, or before any number of them if `total` is 0
abbrev pub head_of : (rate channels bits total : ℕ) → List ℕ
head_of rate channels bits total = plain_head (plain_format rate channels bits) total
