-- Why bytes are no samples of a format.
use Rattle.std.specs.Prelude.{◌≡◌, ◌⊎◌, ◌*◌, ◌%◌, ℕ, nat_eq, cond, List, length, codes, Option, Some, None, option_map}
use Rattle.std.specs.Option.{option_or}
use Rattle.flac_bits.specs.Reasons as reasons
use Rattle.flac_bits.specs.declared.why.Why.TheVariants as why
use Rattle.flac_header.specs.declared.subset.Profile.{Profile}
use Rattle.flac_frame.specs.Audio.{audio_fault, samples_each}
use Rattle.flac_frame.specs.Setup as setup
use Rattle.flac_frame.specs.declared.setup.SetupFault.{SetupFault}
use Rattle.flac_native.specs.Message.{sample_width}
use Rattle.flac_jobs.specs.declared.formats.RawFormat.{RawFormat}
use Rattle.flac_raw.specs.Raw.{raw_channels, raw_sound}
use Rattle.flac_raw.specs.Reading.{EndsInside}
use Rattle.flac_raw.specs.declared.raw_fault.RawFault.{RawFault}
use Rattle.flac_raw.specs.declared.raw_fault.RawFault.TheVariants.{Input, Setup, RawLength}

-- Why samples of this format cannot be encoded, whatever they are: the rate, the depth or the number of channels.
abbrev pub format_fault : Profile → RawFormat → Option SetupFault
format_fault profile format = setup.format_fault profile format.rate format.bits format.channels

-- Why these bytes are no samples of this format: the format, then their number, then the samples.
unfoldable pub raw_fault : Profile → RawFormat → (bytes : List ℕ) → Option RawFault
raw_fault profile format bytes =
    option_or (option_map Setup (format_fault profile format))
    (cond (nat_eq (length bytes % (format.channels * sample_width format.bits)) 0)
    (option_map Setup (audio_fault profile format.rate format.bits (raw_channels format.channels (sample_width format.bits) bytes)))
    (Some RawLength))

-- Why a call stops that reads these bytes: memory ran out, or this is the first reason why they are no such samples.
abbrev pub StopsAsRaw : Profile → RawFormat → RawFault → (bytes : List ℕ) → Type 0
StopsAsRaw profile format e bytes = (e ≡ Input why.Memory) ⊎ (raw_fault profile format bytes ≡ Some e)

-- The same, if it looks at their number alone: memory ran out, or they end inside an inter-channel sample of `row` bytes.
abbrev pub StopsInside : (row : ℕ) → RawFault → (bytes : List ℕ) → Type 0
StopsInside row e bytes = (e ≡ Input why.Memory) ⊎ ((e ≡ RawLength) × EndsInside row bytes)

-- the number and the name of a reason
abbrev pub raw_text : RawFault → List ℕ
raw_text (Input why) = reasons.text_of why
raw_text (Setup fault) = setup.text_of fault
raw_text RawLength = codes "48 RawLength"

-- these bytes are samples of this format, `total` of each channel
pub record AreSamples (profile : Profile) (format : RawFormat) (bytes : List ℕ) (total : ℕ) : Type 0 where
  pub good : raw_fault profile format bytes ≡ None
  pub many : total ≡ samples_each (raw_sound profile format bytes).channels
