-- Samples whose lowest bits are zeros: a file has more bits of each than a stream. Both have whole bytes of it, the
-- lowest first, in two's complement (of samples of up to 8 bits a file turns the highest bit, which is no matter of this
-- page). `width` is how many bytes a stream has, `wave_width` how many a file has.
use Rattle.std.specs.Prelude.{◌≡◌, ◌<◌, ◌≤◌, ℕ, zero, suc, ◌+◌, ◌*◌, ◌/◌, ◌%◌, ◌-◌, ◌^◌, ◌&&◌, ◌||◌, Bool, true, cond, nat_lt, nat_eq, List, [], ◌∷◌, ◌++◌, length, drop, Option, Some, None}
use Rattle.byteorder.specs.Endian.{little_bytes, little_number}
use Rattle.flac_wave.specs.declared.format.WaveFormat.{WaveFormat}

-- ---- from a stream to a file

-- the first sample of a stream, `shift` bits higher
abbrev pub raised_one : (width wave_width shift : ℕ) → List ℕ → List ℕ
raised_one width wave_width shift bytes = little_bytes wave_width (little_number width bytes * 2 ^ shift % 2 ^ (8 * wave_width))

-- the first n samples
abbrev pub raised : (width wave_width shift n : ℕ) → List ℕ → List ℕ
raised width wave_width shift zero bytes = []
raised width wave_width shift (suc n) bytes = raised_one width wave_width shift bytes ++ raised width wave_width shift n (drop width bytes)

-- ---- from a file to a stream

-- A number of `wave_width` bytes, `shift` bits lower, in `width` bytes: if its highest bit is set, it is negative, and
-- the bits above it are set too.
abbrev pub lowered_number : (wave_width width shift : ℕ) → ℕ → ℕ
lowered_number wave_width width shift n =
    (n / 2 ^ shift % 2 ^ (8 * width) + cond (nat_lt n (2 ^ (8 * wave_width - 1))) 0 (2 ^ (8 * width) - 2 ^ (8 * wave_width - shift))) % 2 ^ (8 * width)

-- the first n samples
abbrev pub lowered : (wave_width width shift n : ℕ) → List ℕ → List ℕ
lowered wave_width width shift zero bytes = []
lowered wave_width width shift (suc n) bytes = little_bytes width (lowered_number wave_width width shift (little_number wave_width bytes)) ++ lowered wave_width width shift n (drop wave_width bytes)

-- all whole samples
abbrev pub lowered_all : (wave_width width shift : ℕ) → List ℕ → List ℕ
lowered_all wave_width width shift bytes = lowered wave_width width shift (length bytes / wave_width) bytes

-- the lowest `shift` bits of the first n samples of a file are zeros
abbrev pub are_low_zero : (wave_width shift n : ℕ) → List ℕ → Bool
are_low_zero wave_width shift zero bytes = true
are_low_zero wave_width shift (suc n) bytes = nat_eq (little_number wave_width bytes % 2 ^ shift) 0 && are_low_zero wave_width shift n (drop wave_width bytes)

-- ---- and back

-- each is below 256
abbrev pub AreBytes : List ℕ → Type 0
AreBytes [] = Unit {0}
AreBytes (b ∷ bs) = (b < 256) × AreBytes bs

-- Samples of a file whose lowest `shift` bits are zeros are those of the file again when they were lowered and raised.
abbrev pub SamplesComeBack : Type 0
SamplesComeBack =
    (wave_width width shift n : ℕ) (samples : List ℕ) → shift ≤ 8 * wave_width → 8 * wave_width ≤ 8 * width + shift → AreBytes samples → length samples ≡ n * wave_width
    → are_low_zero wave_width shift n samples ≡ true → raised width wave_width shift n (lowered wave_width width shift n samples) ≡ samples

-- ---- how many bits a stream has

-- a frame header states these (RFC 9639, section 9.1.4), so they are within the streamable subset
abbrev pub is_stated_depth : ℕ → Bool
is_stated_depth n = nat_eq n 8 || (nat_eq n 12 || (nat_eq n 16 || (nat_eq n 20 || (nat_eq n 24 || nat_eq n 32))))

-- how many bytes a sample of a file has
abbrev pub wave_width_of : WaveFormat → ℕ
wave_width_of f = (f.bits + 7) / 8

-- fewer bits count than the bytes of a sample have, and a frame header states their number
abbrev pub may_be_narrow : WaveFormat → Bool
may_be_narrow f = is_stated_depth f.valid && nat_lt f.valid (8 * wave_width_of f)

-- the depth that samples of this format have in any case: all bits of the bytes
abbrev pub known_depth : WaveFormat → Option ℕ
known_depth f = cond (may_be_narrow f) None (Some (8 * wave_width_of f))

-- The bits that count, if a frame header states them and all bits below them are zeros; else all bits of the bytes.
abbrev pub depth_in : WaveFormat → (samples : List ℕ) → ℕ
depth_in f samples =
    cond (may_be_narrow f && are_low_zero (wave_width_of f) (8 * wave_width_of f - f.valid) (length samples / wave_width_of f) samples)
    f.valid (8 * wave_width_of f)
