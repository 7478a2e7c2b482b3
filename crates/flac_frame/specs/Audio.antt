-- Samples that can be encoded.
use Rattle.std.specs.Prelude.{◌≡◌, ◌≤◌, ◌<◌, All, true, is_some, ℕ, ◌^◌, Bool, not, cond, ◌||◌, nat_eq, nat_lt, nat_le, ℤ, List, [], length, slice_index_or, Option, Some, None, is_none, Result, MatchResult}
use Rattle.std.specs.List.{list_all}
use Rattle.std.specs.Option.{option_or}
use Rattle.flac_header.specs.Choice.{rate_choice_in, depth_choice_in}
use Rattle.flac_header.specs.declared.subset.Profile.{Profile}
use Rattle.flac_bits.specs.Signed.{FitsBits}
use Rattle.flac_subframe.specs.format.Numbers.{fits}
use Rattle.flac_frame.specs.declared.setup.SetupFault.{SetupFault}
use Rattle.flac_frame.specs.declared.setup.SetupFault.TheVariants.{BadRate, BadDepth, BadChannels, LengthsDiffer, SampleTooLarge, TooLong}

-- The profile of the streams that the samples may be in, the sample rate in Hz, the bits per sample, and the samples of
-- each channel.
pub record Sound : Type 0 where
  pub profile : Profile
  pub rate : ℕ
  pub bits : ℕ
  pub channels : List (List ℤ)

-- how many samples each channel has, if all have as many
abbrev pub samples_each : List (List ℤ) → ℕ
samples_each channels = length (slice_index_or channels 0 [])

abbrev pub as_long : List (List ℤ) → Bool
as_long channels = list_all (λ c. nat_eq (length c) (samples_each channels)) channels

-- each sample is a number of `bits` bits
abbrev pub each_small : ℕ → List (List ℤ) → Bool
each_small bits channels = list_all (λ c. list_all (fits bits) c) channels

-- Why the samples of channels cannot be encoded, if so: the channels differ in length, or a sample does not fit its
-- bits.
unfoldable pub samples_fault : (bits : ℕ) → List (List ℤ) → Option SetupFault
samples_fault bits channels = cond (not (as_long channels)) (Some LengthsDiffer) (cond (not (each_small bits channels)) (Some SampleTooLarge) None)

-- Why channels cannot be encoded, if so: there are not 1 to 8 (RFC 9639, section 9.1.3); their samples cannot be encoded;
-- or they have more samples than STREAMINFO can count (section 8.2).
unfoldable pub channels_fault : (bits : ℕ) → List (List ℤ) → Option SetupFault
channels_fault bits channels =
    cond (nat_eq (length channels) 0 || nat_lt 8 (length channels)) (Some BadChannels)
    (option_or (samples_fault bits channels) (cond (nat_le (2 ^ 36) (samples_each channels)) (Some TooLong) None))

-- Why samples cannot be encoded, if so: under the profile no frame header has a code for the rate or for the depth
-- (sections 7, 9.1.2 and 9.1.4), or the channels cannot be encoded.
unfoldable pub audio_fault : Profile → (rate bits : ℕ) → List (List ℤ) → Option SetupFault
audio_fault profile rate bits channels =
    cond (is_none (rate_choice_in profile rate)) (Some BadRate) (cond (is_none (depth_choice_in profile bits)) (Some BadDepth) (channels_fault bits channels))

-- the properties of samples that can be encoded
pub record IsSound (a : Sound) : Type 0 where
  pub rate : is_some (rate_choice_in a.profile a.rate) ≡ true
  pub bits : is_some (depth_choice_in a.profile a.bits) ≡ true
  pub some : 1 ≤ length a.channels
  pub few : length a.channels ≤ 8
  pub long : All (λ c. length c ≡ samples_each a.channels) a.channels
  pub small : All (λ c. All (FitsBits a.bits) c) a.channels
  pub short : samples_each a.channels < 2 ^ 36

-- these samples can be encoded, or the reason is returned why they cannot
abbrev pub MakesAudio : Profile → (rate bits : ℕ) → List (List ℤ) → Result Sound SetupFault → Type 0
MakesAudio profile rate bits channels result =
    MatchResult result (λ a. a ≡ record { profile = profile; rate = rate; bits = bits; channels = channels }) (λ e. audio_fault profile rate bits channels ≡ Some e)
