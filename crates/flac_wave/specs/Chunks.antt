-- The chunks of a WAV file (RIFF: Microsoft and IBM, Multimedia Programming Interface and Data Specifications 1.0; RF64:
-- EBU Tech 3306; BW64: ITU-R BS.2088). A chunk is an identifier of four bytes, the length of its content in four, the
-- lowest first, the content, and a byte after content of odd length.
use Rattle.std.specs.Prelude.{◌≡◌, ℕ, ◌+◌, ◌-◌, ◌%◌, min, ◌&&◌, ◌||◌, Bool, false, not, cond, nat_lt, nat_eq, List, [], ◌∷◌, length, take, drop, Option, Some, None, is_some, unwrap_or}
use Rattle.byteorder.specs.Endian.{little_number}
use Rattle.flac_wave.specs.Format.{long_at, format_fault, format_of, row_of}
use Rattle.flac_wave.specs.declared.seen.Seen.{Seen}
use Rattle.flac_wave.specs.declared.format.WaveFormat.{WaveFormat}
use Rattle.flac_wave.specs.declared.why.WaveWhy.{WaveWhy}
use Rattle.flac_wave.specs.declared.why.WaveWhy.TheVariants as why

-- ---- one chunk

-- the identifier as a number, the lowest byte first: `data` is 1635017060, `fmt ` 544501094, `ds64` 875983716
abbrev pub id_of : List ℕ → ℕ
id_of bytes = little_number 4 bytes

abbrev pub is_data : List ℕ → Bool
is_data bytes = nat_eq (id_of bytes) 1635017060

abbrev pub is_format : List ℕ → Bool
is_format bytes = nat_eq (id_of bytes) 544501094

abbrev pub is_long_sizes : List ℕ → Bool
is_long_sizes bytes = nat_eq (id_of bytes) 875983716

-- the length of the content
abbrev pub size_of : List ℕ → ℕ
size_of bytes = long_at 4 bytes

-- how many bytes the chunk has
abbrev pub chunk_len : List ℕ → ℕ
chunk_len bytes = 8 + size_of bytes + size_of bytes % 2

-- the most bytes of a chunk that a block of metadata keeps: 16777215, without the four of the application's identifier
abbrev pub most_kept : ℕ
most_kept = 16777211

-- ---- the header of a file

-- `RIFF`, `RF64` or `BW64`; four bytes; `WAVE`
unfoldable pub header_fault : List ℕ → Option WaveWhy
header_fault bytes =
    cond (nat_lt 11 (length bytes)
    && ((nat_eq (id_of bytes) 1179011410 || (nat_eq (id_of bytes) 875972178 || nat_eq (id_of bytes) 875976514))
    && nat_eq (long_at 8 bytes) 1163280727))
    None (Some why.NotWave)

-- ---- what was seen

-- What is known before the first chunk: the length that the header states, and whether the samples may go on to the end of
-- a file that ends inside them.
unfoldable pub seen_first : (to_end : Bool) → List ℕ → Seen
seen_first to_end bytes = record { riff = size_of bytes; long = None; format = None; to_end = to_end }

-- what is known after a chunk before the samples
unfoldable pub after_chunk : Seen → (bytes : List ℕ) → Seen
after_chunk s bytes = record {
  riff = s.riff;
  -- the length of the samples, which `ds64` has in eight bytes
  long = cond (is_long_sizes bytes && nat_lt 27 (size_of bytes)) (Some (little_number 8 (drop 16 bytes))) s.long;
  format = cond (is_format bytes) (Some (format_of bytes)) s.format;
  to_end = s.to_end;
}

abbrev pub format_after : Seen → (bytes : List ℕ) → Option WaveFormat
format_after s bytes = (after_chunk s bytes).format

-- ---- the samples

-- The number of bytes of the samples. `None`: they go to the end of the file, as its writer did not know better: the
-- length is FFFFFFFF (and no `ds64` states it), or 7FFFF000, which sox writes to a pipe, or 0 in a file whose header
-- states 0 or FFFFFFFF.
unfoldable pub stated : Seen → (size : ℕ) → Option ℕ
stated s size =
    cond (nat_eq size 4294967295) s.long
    (cond (nat_eq size 2147479552 || (nat_eq size 0 && (nat_eq s.riff 0 || nat_eq s.riff 4294967295))) None (Some size))

-- a printing character of ASCII, of which four are an identifier
abbrev pub is_printing : ℕ → Bool
is_printing byte = nat_lt 31 byte && nat_lt byte 127

abbrev pub is_named : List ℕ → Bool
is_named (a ∷ (b ∷ (c ∷ (d ∷ bytes)))) = is_printing a && (is_printing b && (is_printing c && is_printing d))
is_named other = false

-- these bytes begin with a whole chunk: its header, and as many bytes as this states
abbrev pub begins_chunk : List ℕ → Bool
begins_chunk bytes = nat_lt 7 (length bytes) && (is_named bytes && nat_lt (7 + size_of bytes) (length bytes))

-- The header of the samples states 0 bytes, and what follows it is no chunk: the writer ended before it stated the length.
abbrev pub is_unstated : (size : Option ℕ) → (rest : List ℕ) → Bool
is_unstated None rest = false
is_unstated (Some n) rest = nat_eq n 0 && (nat_lt 0 (length rest) && not (begins_chunk rest))

-- The number of bytes of the samples whose header states this one and has these bytes after it. Samples without a length
-- go to the end of the file, too, if samples may.
abbrev pub size_in : (to_end : Bool) (size : Option ℕ) (rest : List ℕ) → Option ℕ
size_in to_end size rest = cond (to_end && is_unstated size rest) None size

-- the same, of the chunk that these bytes begin with
abbrev pub data_size : Seen → (bytes : List ℕ) → Option ℕ
data_size s bytes = size_in s.to_end (stated s (size_of bytes)) (drop 8 bytes)

-- this length, or that of all bytes that are there, if they are fewer and the samples may go on to the end
abbrev pub within : (to_end : Bool) (size room : ℕ) → ℕ
within to_end size room = cond to_end (min size room) size

-- how many bytes the samples have; `bytes` begins with the header of their chunk
abbrev pub data_len : Seen → (bytes : List ℕ) → ℕ
data_len s bytes = within s.to_end (unwrap_or (data_size s bytes) (length bytes - 8)) (length bytes - 8)

-- why these are no samples of a format
unfoldable pub samples_fault : WaveFormat → (size room : ℕ) → Option WaveWhy
samples_fault format size room =
    cond (nat_lt room size) (Some why.DataCut)
    (cond (nat_lt 0 (row_of format) && nat_eq (size % row_of format) 0) None (Some why.PartSample))

-- why these are no samples
unfoldable pub data_fault : Seen → (bytes : List ℕ) → Option WaveWhy
data_fault s bytes = elim s.format [
  | None ↦ Some why.NoFormat
  | Some format ↦ cond (is_unstated (data_size s bytes) (drop 8 bytes)) (Some why.DataUnstated) (samples_fault format (data_len s bytes) (length bytes - 8))
]

-- ---- the next chunk

-- why a chunk that is there is refused
unfoldable pub content_fault : Seen → (bytes : List ℕ) → Option WaveWhy
content_fault s bytes = cond (is_format bytes) (cond (is_some s.format) (Some why.RepeatedFormat) (format_fault bytes)) None

-- why a chunk before the samples is refused
unfoldable pub chunk_fault : Seen → (bytes : List ℕ) → Option WaveWhy
chunk_fault s bytes =
    cond (nat_lt (length bytes) (chunk_len bytes)) (Some why.ChunkCut)
    (cond (nat_lt most_kept (chunk_len bytes)) (Some why.ChunkLength)
    (content_fault s bytes))

-- why neither a chunk nor the samples are here
unfoldable pub fault_at : Seen → (bytes : List ℕ) → Option WaveWhy
fault_at s bytes =
    cond (nat_lt (length bytes) 8) (Some (cond (nat_eq (length bytes) 0) why.NoData why.ChunkCut))
    (cond (is_data bytes) (data_fault s bytes) (chunk_fault s bytes))

-- These chunks come one after another, and then the rest; after them this is known.
abbrev pub Leads : Seen → (chunks : List (List ℕ)) → (bytes rest : List ℕ) → Seen → Type 0
Leads s [] bytes rest t = (bytes ≡ rest) × (s ≡ t)
Leads s (c ∷ cs) bytes rest t =
    (fault_at s bytes ≡ None) × (is_data bytes ≡ false) × (c ≡ take (chunk_len bytes) bytes) × Leads (after_chunk s bytes) cs (drop (chunk_len bytes) bytes) rest t
