-- A plain WAV file: samples, and what is needed to read them. It is what a stream becomes whose blocks keep no file.
use Rattle.std.specs.Prelude.{◌≡◌, ◌<◌, ◌⊎◌, ℕ, ◌+◌, ◌*◌, ◌/◌, ◌%◌, ◌||◌, Bool, cond, nat_lt, nat_eq, List, [], ◌∷◌, ◌++◌, length, Option, Some, None}
use Rattle.byteorder.specs.Endian.{little_bytes}
use Rattle.flac_wave.specs.Format.{IsInRange, row_of}
use Rattle.flac_wave.specs.Wave.{Parts, IsWave, pad_of, all_of, restored}
use Rattle.flac_wave.specs.declared.format.WaveFormat.{WaveFormat}

-- ---- its format

-- A chunk `fmt ` of 16 bytes is for up to 2 channels of 8 or 16 bits. More channels, more bits, or bits that are no
-- whole bytes need WAVE_FORMAT_EXTENSIBLE.
abbrev pub needs_extensible : (channels bits : ℕ) → Bool
needs_extensible channels bits = nat_lt 2 channels || (nat_lt 16 bits || nat_lt 0 (bits % 8))

-- The speakers of 1 to 8 channels in the order of RFC 9639, section 9.1.3, a bit each: front left is 1, front right 2,
-- front center 4, the low frequencies 8, back left 16, back right 32, back center 256, side left 512, side right 1024.
unfoldable pub mask_of : (channels : ℕ) → ℕ
mask_of channels =
    cond (nat_eq channels 1) 4
    (cond (nat_eq channels 2) 3
    (cond (nat_eq channels 3) 7
    (cond (nat_eq channels 4) 51
    (cond (nat_eq channels 5) 55
    (cond (nat_eq channels 6) 63
    (cond (nat_eq channels 7) 1807 1599))))))

-- which speakers the channels are for, if a file says others than these
abbrev pub other_mask : WaveFormat → Option ℕ
other_mask f = elim f.mask [ None ↦ None | Some mask ↦ cond (nat_eq mask (mask_of f.channels)) None (Some mask) ]

-- the format of a plain file: a sample has whole bytes, and `bits` of their bits count
unfoldable pub plain_format : (rate channels bits : ℕ) → WaveFormat
plain_format rate channels bits = record {
  rate = rate;
  channels = channels;
  bits = 8 * ((bits + 7) / 8);
  valid = bits;
  mask = cond (needs_extensible channels bits) (Some (mask_of channels)) None;
}

-- ---- the chunk `fmt `

-- `fmt `, its length, the coding, and the format: channels, rate, bytes a second, bytes of an inter-channel sample, bits
unfoldable pub format_fields : (size coding : ℕ) → WaveFormat → List ℕ
format_fields size coding f =
    little_bytes 4 544501094 ++ (little_bytes 4 size ++ (little_bytes 2 coding ++ (little_bytes 2 f.channels ++ (little_bytes 4 f.rate
    ++ (little_bytes 4 (f.rate * row_of f) ++ (little_bytes 2 (row_of f) ++ little_bytes 2 f.bits))))))

-- of 16 bytes: PCM
unfoldable pub basic_chunk : WaveFormat → List ℕ
basic_chunk f = format_fields 16 1 f

-- of 40 bytes: WAVE_FORMAT_EXTENSIBLE, 22 more of them, the bits that count, the speakers, the GUID of PCM
unfoldable pub extensible_chunk : WaveFormat → (mask : ℕ) → List ℕ
extensible_chunk f mask =
    format_fields 40 65534 f ++ (little_bytes 2 22 ++ (little_bytes 2 f.valid ++ (little_bytes 4 mask
    ++ (little_bytes 4 1 ++ (little_bytes 4 1048576 ++ (little_bytes 4 2852126848 ++ little_bytes 4 1905997824))))))

-- extensible if the format has speakers
abbrev pub format_chunk : WaveFormat → List ℕ
format_chunk f = elim f.mask [ None ↦ basic_chunk f | Some mask ↦ extensible_chunk f mask ]

-- how many bytes it has
abbrev pub format_len : WaveFormat → ℕ
format_len f = elim f.mask [ None ↦ 24 | Some mask ↦ 48 ]

-- ---- the pieces before the samples

-- the header of a file: `RIFF` or `RF64`, the length of what follows, `WAVE`
unfoldable pub file_header : (id size : ℕ) → List ℕ
file_header id size = little_bytes 4 id ++ (little_bytes 4 size ++ little_bytes 4 1163280727)

-- `data` and the length of the samples
unfoldable pub data_header : (size : ℕ) → List ℕ
data_header size = little_bytes 4 1635017060 ++ little_bytes 4 size

-- what follows the first 8 bytes of a file: `WAVE`, the chunk `fmt `, the header of the samples, these, and a zero if
-- they are of odd length
abbrev pub riff_size : WaveFormat → (size : ℕ) → ℕ
riff_size f size = 12 + format_len f + size + size % 2

-- a file whose headers state these lengths of what follows, and of the samples
abbrev pub short_pieces : WaveFormat → (all size : ℕ) → List (List ℕ)
short_pieces f all size = file_header 1179011410 all ∷ format_chunk f ∷ data_header size ∷ []

-- `ds64` of 28 bytes: the lengths of what follows the first 8 bytes, and of the samples, the number of inter-channel
-- samples, and that no other chunk is long
unfoldable pub sizes_chunk : (all size total : ℕ) → List ℕ
sizes_chunk all size total =
    little_bytes 4 875983716 ++ (little_bytes 4 28 ++ (little_bytes 8 all ++ (little_bytes 8 size ++ (little_bytes 8 total ++ little_bytes 4 0))))

-- an RF64 file (EBU Tech 3306), whose headers state FFFFFFFF, and the chunk `ds64` the lengths
abbrev pub long_pieces : WaveFormat → (size total : ℕ) → List (List ℕ)
long_pieces f size total = file_header 875972178 4294967295 ∷ sizes_chunk (36 + riff_size f size) size total ∷ format_chunk f ∷ data_header 4294967295 ∷ []

-- of a known number of inter-channel samples: RIFF if its length is below FFFFFFFF
abbrev pub known_pieces : WaveFormat → (size total : ℕ) → List (List ℕ)
known_pieces f size total = cond (nat_lt (riff_size f size) 4294967295) (short_pieces f (riff_size f size) size) (long_pieces f size total)

-- What comes before `total` inter-channel samples. If 0 is stated, their number is unknown: then both lengths are
-- FFFFFFFF, and the samples go to the end of the file.
abbrev pub plain_front : WaveFormat → (total : ℕ) → List (List ℕ)
plain_front f total = cond (nat_eq total 0) (short_pieces f 4294967295 4294967295) (known_pieces f (total * row_of f) total)

-- What comes after them: if their number is unknown, a piece without a byte, since no zero follows them then.
abbrev pub plain_back : (total : ℕ) → List (List ℕ)
plain_back total = cond (nat_eq total 0) ([] ∷ []) []

-- all pieces
abbrev pub plain_pieces : WaveFormat → (total : ℕ) → List (List ℕ)
plain_pieces f total = plain_front f total ++ plain_back total

-- ---- the file

-- what is before the samples, and after them: a zero if they are of odd length, unless their number is unknown
abbrev pub plain_head : WaveFormat → (total : ℕ) → List ℕ
plain_head f total = all_of (plain_front f total)

abbrev pub plain_tail : (total : ℕ) → (samples : List ℕ) → List ℕ
plain_tail total samples = pad_of samples (plain_back total)

abbrev pub plain_file : WaveFormat → (total : ℕ) → (samples : List ℕ) → List ℕ
plain_file f total samples = plain_head f total ++ (samples ++ plain_tail total samples)

-- what a reader finds in it
abbrev pub plain_parts : WaveFormat → (total : ℕ) → (samples : List ℕ) → Parts
plain_parts f total samples = record { format = f; pieces = plain_front f total; samples = samples; back = plain_tail total samples }

-- all bits count if there are no speakers; else the number of bits that count, and the speakers, fit their fields
abbrev pub MaskFits : (valid bits : ℕ) → (mask : Option ℕ) → Type 0
MaskFits valid bits None = valid ≡ bits
MaskFits valid bits (Some mask) = (valid < 65536) × (mask < 4294967296)

-- The numbers of a format fit their fields.
pub record CanBeWritten (f : WaveFormat) : Type 0 where
  pub range : IsInRange f
  pub rate : f.rate < 4294967296
  pub fast : f.rate * row_of f < 4294967296
  pub mask : MaskFits f.valid f.bits f.mask

-- Whole inter-channel samples, `total` of them if that is not 0; a stream has fewer than 2^36 (RFC 9639, section 8.2).
pub record IsPlain (f : WaveFormat) (total : ℕ) (samples : List ℕ) : Type 0 where
  pub format : CanBeWritten f
  pub few : total < 68719476736
  pub count : ℕ
  pub whole : length samples ≡ count * row_of f
  pub stated : (total ≡ 0) ⊎ (total ≡ count)

-- ---- laws

-- samples of a format that a stream can have can be written
abbrev pub FormatsCanBeWritten : Type 0
FormatsCanBeWritten = (rate channels bits : ℕ) → rate < 134217728 → 0 < channels → channels < 9 → 0 < bits → bits < 33 → CanBeWritten (plain_format rate channels bits)

-- a plain file is read as what it was made of
abbrev pub PlainFilesAreRead : Type 0
PlainFilesAreRead =
    (to_end : Bool) (format : WaveFormat) (total : ℕ) (samples : List ℕ) → IsPlain format total samples → IsWave to_end (plain_file format total samples) (plain_parts format total samples)

-- it is made of pieces and samples as the file that a stream keeps
abbrev pub PlainFilesAreMade : Type 0
PlainFilesAreMade = (format : WaveFormat) (total : ℕ) (samples : List ℕ) → restored (plain_pieces format total) samples ≡ plain_file format total samples
