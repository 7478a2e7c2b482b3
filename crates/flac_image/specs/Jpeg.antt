-- The frame header of a JPEG picture (ITU-T T.81, annex B).
use Rattle.std.specs.Prelude.{ℕ, zero, suc, ◌+◌, ◌*◌, Bool, ◌&&◌, ◌||◌, cond, nat_lt, nat_le, nat_eq, not, List, length, drop, get_or, Option, Some, None, Result, Ok, Err}
use Rattle.byteorder.specs.Endian.{big_number}
use Rattle.flac_image.specs.declared.image.Image.{Image}
use Rattle.flac_image.specs.declared.image.ImageKind.TheVariants as kind

-- the number of two bytes at a place, the highest first
abbrev pub short_at : ℕ → List ℕ → ℕ
short_at i bytes = big_number 2 (drop i bytes)

-- ---- markers: a byte of 255, and a code (section B.1.1.2, table B.1)

-- start of frame: 192 to 207 (C0 to CF), but DHT, JPG and DAC
abbrev pub is_frame : ℕ → Bool
is_frame code = nat_le 192 code && (nat_lt code 208 && not (nat_eq code 196 || (nat_eq code 200 || nat_eq code 204)))

-- end of image, and start of scan: a frame header comes before either
abbrev pub is_end : ℕ → Bool
is_end code = nat_eq code 217 || nat_eq code 218

-- ---- segments

-- A marker, and a segment that begins with its length in two bytes, which count (section B.1.1.4). How many bytes both
-- have, if they are whole:
unfoldable pub segment_len : List ℕ → Option ℕ
segment_len bytes = cond (nat_lt (length bytes) (2 + short_at 2 bytes)) None (Some (2 + short_at 2 bytes))

-- A frame header: its marker, its length, the bits of a sample, the number of lines, the samples of a line, and the
-- number of components (section B.2.2)
unfoldable pub frame_of : List ℕ → Option Image
frame_of bytes =
    cond (nat_lt (length bytes) 10) None
    (Some (record { kind = kind.Jpeg; width = short_at 7 bytes; height = short_at 5 bytes; depth = get_or bytes 4 0 * get_or bytes 9 0; colours = 0 }))

-- Where the next segment is: any number of bytes of 255 may fill the place before a marker.
unfoldable pub next_len : List ℕ → Option ℕ
next_len bytes = cond (nat_eq (get_or bytes 1 0) 255) (Some 1) (segment_len bytes)

-- At a marker: how far it is to the next one, or (`Err`) what is found, the sizes of a frame header if it is one.
unfoldable pub at_marker : List ℕ → Result ℕ (Option Image)
at_marker bytes =
    cond (nat_lt (length bytes) 4 || not (nat_eq (get_or bytes 0 0) 255)) (Err None)
    (cond (is_frame (get_or bytes 1 0)) (Err (frame_of bytes))
    (cond (is_end (get_or bytes 1 0)) (Err None)
    (elim (next_len bytes) [ None ↦ Err None | Some len ↦ Ok len ])))

-- what is found at the first n markers
unfoldable pub frame_in : (n : ℕ) → List ℕ → Option Image
frame_in zero bytes = None
frame_in (suc n) bytes = elim (at_marker bytes) [ Ok len ↦ frame_in n (drop len bytes) | Err found ↦ found ]

-- a picture begins with the marker of its start, whose code is 216
unfoldable pub jpeg_of : List ℕ → Option Image
jpeg_of bytes =
    cond (nat_lt (length bytes) 2 || (not (nat_eq (get_or bytes 0 0) 255) || not (nat_eq (get_or bytes 1 0) 216))) None
    (frame_in (length (drop 2 bytes)) (drop 2 bytes))
