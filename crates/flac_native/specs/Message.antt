-- The MD5 input: all samples, interleaved channel by channel (RFC 9639, section 8.2).
use Rattle.std.specs.Prelude.{ℕ, zero, suc, ℤ, pos, ◌+◌, ◌/◌, List, [], ◌∷◌, ◌++◌, take, slice_index_or}
use Rattle.std.specs.Int.{to_le_bytes, cast_unsigned, w32}
use Rattle.flac_frame.specs.Frame.{Frame}
use Rattle.md5.specs.Md5.{Holds}
use Rattle.md5.specs.declared.Md5.{Md5}

-- how many whole bytes hold a sample of `depth` bits
abbrev pub sample_width : ℕ → ℕ
sample_width depth = (depth + 7) / 8

-- a sample, little-endian, in the lowest bytes of its two's complement of 32 bits
abbrev pub sample_bytes : ℕ → ℤ → List ℕ
sample_bytes width z = take width (to_le_bytes w32 (cast_unsigned w32 z))

-- the samples of all channels at one index
unfoldable pub row_bytes : ℕ → List (List ℤ) → ℕ → List ℕ
row_bytes width [] i = []
row_bytes width (channel ∷ channels) i = sample_bytes width (slice_index_or channel i (pos 0)) ++ row_bytes width channels i

-- the samples of all channels at n indices from i on
unfoldable pub rows_bytes : ℕ → List (List ℤ) → ℕ → ℕ → List ℕ
rows_bytes width channels zero i = []
rows_bytes width channels (suc n) i = row_bytes width channels i ++ rows_bytes width channels n (i + 1)

-- all samples of a frame
abbrev pub frame_rows : (width : ℕ) → Frame → List ℕ
frame_rows width f = rows_bytes width f.channels f.size 0

-- these bytes were added to the MD5 input
abbrev pub Feeds : Md5 → List ℕ → Md5 → Type 0
Feeds old bytes new = (m : List ℕ) → Holds old m → Holds new (m ++ bytes)

-- all samples of a frame, of `depth` bits
abbrev pub frame_message : ℕ → Frame → List ℕ
frame_message depth f = rows_bytes (sample_width depth) f.channels f.size 0
