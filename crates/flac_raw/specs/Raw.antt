-- Raw samples: interleaved channel by channel, signed little-endian, each sign-extended to whole bytes. They are the
-- bytes whose MD5 STREAMINFO states (RFC 9639, section 8.2).
use Rattle.std.specs.Prelude.{◌≡◌, ◌+◌, ◌*◌, ◌/◌, ℕ, zero, suc, ℤ, List, [], ◌∷◌, ◌++◌, length, take, drop}
use Rattle.byteorder.specs.Endian.{twos_complement, little_number}
use Rattle.flac_header.specs.declared.subset.Profile.{Profile}
use Rattle.flac_frame.specs.Audio.{Sound, IsSound}
use Rattle.flac_native.specs.Given.{sound_message}
use Rattle.flac_native.specs.Message.{sample_width}
use Rattle.flac_jobs.specs.declared.formats.RawFormat.{RawFormat}

-- ---- the samples that bytes are

-- the number that these bytes are in two's complement, the lowest byte first
abbrev pub number_of : List ℕ → ℤ
number_of bytes = twos_complement (length bytes) (little_number (length bytes) bytes)

-- the first n samples of one channel, which has the `width` bytes from `start` on of each inter-channel sample of `row`
-- bytes
unfoldable pub samples_at : (bytes : List ℕ) (row start width n : ℕ) → List ℤ
samples_at bytes row start width zero = []
samples_at bytes row start width (suc n) = samples_at bytes row start width n ++ number_of (take width (drop (n * row + start) bytes)) ∷ []

-- the samples of the first n channels, of `rows` inter-channel samples
unfoldable pub channels_at : (bytes : List ℕ) (rows row width n : ℕ) → List (List ℤ)
channels_at bytes rows row width zero = []
channels_at bytes rows row width (suc n) = channels_at bytes rows row width n ++ samples_at bytes row (n * width) width rows ∷ []

-- the samples of each channel, of `width` bytes each
abbrev pub raw_channels : (count width : ℕ) → List ℕ → List (List ℤ)
raw_channels count width bytes = channels_at bytes (length bytes / (count * width)) (count * width) width count

-- the samples of this format that these bytes are, for a stream of this profile
abbrev pub raw_sound : Profile → RawFormat → List ℕ → Sound
raw_sound profile format bytes = record { profile = profile; rate = format.rate; bits = format.bits; channels = raw_channels format.channels (sample_width format.bits) bytes }

-- ---- what holds of them

-- these bytes are exactly these samples, which have this profile and format and fit its bits
pub record IsRaw (profile : Profile) (format : RawFormat) (bytes : List ℕ) (a : Sound) : Type 0 where
  pub profiled : a.profile ≡ profile
  pub rate : a.rate ≡ format.rate
  pub bits : a.bits ≡ format.bits
  pub channels : length a.channels ≡ format.channels
  pub sound : IsSound a
  pub samples : sound_message a ≡ bytes

-- these bytes are exactly the samples that are read from them
abbrev pub AreRaw : Profile → RawFormat → (bytes : List ℕ) → Type 0
AreRaw profile format bytes = IsRaw profile format bytes (raw_sound profile format bytes)
