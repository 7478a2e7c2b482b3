-- The chunk `fmt ` of a WAV file: the format of its samples. Places are those in the chunk, after whose header of 8
-- bytes the content begins.
use Rattle.std.specs.Prelude.{ℕ, ◌<◌, ◌+◌, ◌*◌, ◌/◌, ◌&&◌, ◌||◌, Bool, cond, nat_lt, nat_eq, List, drop, Option, Some, None}
use Rattle.byteorder.specs.Endian.{little_number}
use Rattle.flac_wave.specs.declared.format.WaveFormat.{WaveFormat}
use Rattle.flac_wave.specs.declared.why.WaveWhy.{WaveWhy}
use Rattle.flac_wave.specs.declared.why.WaveWhy.TheVariants as why

-- the number of two bytes, and of four, at a place, the lowest first
abbrev pub short_at : ℕ → List ℕ → ℕ
short_at i bytes = little_number 2 (drop i bytes)

abbrev pub long_at : ℕ → List ℕ → ℕ
long_at i bytes = little_number 4 (drop i bytes)

-- the coding is WAVE_FORMAT_EXTENSIBLE, whose content has 40 bytes at least
abbrev pub is_extensible : List ℕ → Bool
is_extensible chunk = nat_eq (short_at 8 chunk) 65534 && nat_lt 39 (long_at 4 chunk)

-- the GUID of PCM, 00000001-0000-0010-8000-00AA00389B71
abbrev pub has_pcm_guid : List ℕ → Bool
has_pcm_guid chunk = nat_eq (long_at 32 chunk) 1 && (nat_eq (long_at 36 chunk) 1048576 && (nat_eq (long_at 40 chunk) 2852126848 && nat_eq (long_at 44 chunk) 1905997824))

-- the samples are PCM
unfoldable pub is_pcm : List ℕ → Bool
is_pcm chunk = nat_eq (short_at 8 chunk) 1 || (is_extensible chunk && has_pcm_guid chunk)

-- 1 to 8 channels, 1 to 32 bits, and an inter-channel sample has as many bytes as its samples need
unfoldable pub fields_fit : List ℕ → Bool
fields_fit chunk =
    nat_lt 0 (short_at 10 chunk) && (nat_lt (short_at 10 chunk) 9
    && (nat_lt 0 (short_at 22 chunk) && (nat_lt (short_at 22 chunk) 33
    && nat_eq (short_at 20 chunk) (short_at 10 chunk * ((short_at 22 chunk + 7) / 8)))))

-- why this chunk is not the format of samples that are read
unfoldable pub format_fault : List ℕ → Option WaveWhy
format_fault chunk =
    cond (nat_lt (long_at 4 chunk) 16) (Some why.FormatLength)
    (cond (is_pcm chunk)
    (cond (fields_fit chunk) None (Some why.FormatFields))
    (Some why.Coding))

-- the format that this chunk states: the rate, the channels, the bits of a sample and how many of them count, and which
-- speakers the channels are for
unfoldable pub format_of : List ℕ → WaveFormat
format_of chunk = record {
  rate = long_at 12 chunk;
  channels = short_at 10 chunk;
  bits = short_at 22 chunk;
  valid = cond (is_extensible chunk) (short_at 26 chunk) (short_at 22 chunk);
  mask = cond (is_extensible chunk) (Some (long_at 28 chunk)) None;
}

-- 1 to 8 channels of 1 to 32 bits
pub record IsInRange (f : WaveFormat) : Type 0 where
  pub channels : 0 < f.channels
  pub few : f.channels < 9
  pub bits : 0 < f.bits
  pub narrow : f.bits < 33

-- how many bytes an inter-channel sample has
abbrev pub row_of : WaveFormat → ℕ
row_of format = format.channels * ((format.bits + 7) / 8)
