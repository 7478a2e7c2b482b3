-- What C gives to be encoded, and what is made of it.
use Rattle.std.specs.Prelude.{◌≡◌, ◌⊎◌, ℕ, ◌%◌, cond, ◌||◌, nat_eq, nat_lt, ℤ, List, [], ◌∷◌, length, map, Option, Some, None, option_map, Result, MatchResult}
use Rattle.std.specs.Option.{option_or}
use Rattle.flac_bits.specs.Reasons as reasons
use Rattle.flac_meta.specs.Listed.{list_fault, info_seen}
use Rattle.flac_meta.specs.declared.block.Block.{Block}
use Rattle.flac_meta.specs.declared.block.Block.TheVariants.{VorbisComment}
use Rattle.flac_meta.specs.declared.comments.Comments.{Comments}
use Rattle.flac_header.specs.declared.subset.Profile.{Profile}
use Rattle.flac_header.specs.declared.subset.Profile.TheVariants.{Subset}
use Rattle.flac_frame.specs.Audio.{Sound, IsSound, audio_fault}
use Rattle.flac_frame.specs.Setup as setup
use Rattle.flac_frame.specs.declared.setup.SetupFault.{SetupFault}
use Rattle.flac_frame.specs.declared.setup.SetupFault.TheVariants.{BadChannels, LengthsDiffer}
use Rattle.flac_subframe.specs.declared.format.linear.LinearPredictor.{LinearPredictor}
use Rattle.flac_native.specs.Given.{Cut, cut_of, plan_fault, with_found}
use Rattle.flac_ogg.specs.RoundTrip.{EncodedBytes, is_no_ogg}
use Rattle.flac_c.specs.Answers.{IsCopied}
use Rattle.flac_c.specs.Interleaved.{all_channels}
use Rattle.flac_c.specs.Profiles.{profile_of}
use Rattle.flac_c.specs.declared.tags.FlacProvedText.{FlacProvedText}
use Rattle.flac_c.specs.declared.tags.FlacProvedTags.{FlacProvedTags}
use Rattle.flac_c.specs.declared.encoding.FlacProvedOptions.{FlacProvedOptions}
use Rattle.flac_c.specs.declared.encoding.FlacProvedSettings.{FlacProvedSettings}

-- ---- what is given

-- the samples as channels of the same number of samples
abbrev pub sound_of : Profile → FlacProvedSettings → List ℤ → Sound
sound_of profile s samples = record { profile = profile; rate = s.rate; bits = s.bits; channels = all_channels samples s.channels }

abbrev pub plan_of : FlacProvedSettings → Sound → Cut
plan_of s a = cut_of s.block_size a s.seek_every

-- a native stream has no number
abbrev pub serial_of : FlacProvedSettings → Option ℕ
serial_of s = cond (nat_eq s.ogg 0) None (Some s.serial)

abbrev pub texts_of : List FlacProvedText → List (List ℕ)
texts_of texts = map (λ t. t.bytes.now) texts

abbrev pub comments_of : FlacProvedTags → Comments
comments_of t = record { vendor = t.vendor.bytes.now; list = texts_of t.list.now }

-- the one block after STREAMINFO (RFC 9639, section 8.6)
abbrev pub blocks_of : FlacProvedTags → List Block
blocks_of t = VorbisComment (comments_of t) ∷ []

-- ---- why it is not encoded

-- Why these are no samples of 1 to 8 channels: not the same number of each, or not of the streamable subset.
unfoldable pub samples_fault : Profile → FlacProvedSettings → List ℤ → Option SetupFault
samples_fault profile s samples =
    cond (nat_eq s.channels 0 || nat_lt 8 s.channels) (Some BadChannels)
    (cond (nat_eq (length samples % s.channels) 0) (audio_fault profile s.rate s.bits (sound_of profile s samples).channels) (Some LengthsDiffer))

-- The number of the first reason why samples are not encoded: how they are cut into blocks, the comments, or the
-- container.
unfoldable pub stream_fault : FlacProvedSettings → FlacProvedTags → Sound → Option ℕ
stream_fault s t a =
    option_or (option_map setup.number_of (plan_fault (plan_of s a)))
    (option_or (option_map reasons.number_of (list_fault info_seen (blocks_of t)))
    (cond (is_no_ogg (serial_of s) (plan_of s a) (blocks_of t)) (Some 37) None))

-- ---- what is made of it

-- This plan is the other one with what was found for each plane of each block, and nothing was if none was sought.
pub record IsSearched (effort : ℕ) (plan tried : Cut) : Type 0 where
  pub found : List (List (List LinearPredictor))
  pub sought : effort ≡ 0 → found ≡ []
  pub is : tried ≡ with_found plan found

-- bytes that are a stream of these samples by this plan, with these comments, native or Ogg
abbrev pub EncodedBy : (effort : ℕ) → FlacProvedSettings → FlacProvedTags → Sound → List ℕ → Type 0
EncodedBy effort s t a stream = (tried : Cut) × IsSearched effort (plan_of s a) tried × EncodedBytes (serial_of s) tried (blocks_of t) a stream

-- a plan is made, or this is why not
abbrev pub IsPlanned : FlacProvedSettings → Sound → Result Cut SetupFault → Type 0
IsPlanned s a result = MatchResult result (λ p. p ≡ plan_of s a) (λ e. plan_fault (plan_of s a) ≡ Some e)

-- they are samples that can be encoded, the same number of each channel
pub record CanBeEncoded (profile : Profile) (s : FlacProvedSettings) (samples : List ℤ) : Type 0 where
  pub whole : length samples % s.channels ≡ 0
  pub sound : IsSound (sound_of profile s samples)

-- the bytes are a stream of exactly these samples and comments, native or Ogg
pub record IsEncoded (profile : Profile) (effort : ℕ) (s : FlacProvedSettings) (samples : List ℤ) (t : FlacProvedTags) (stream : List ℕ) : Type 0 where
  pub can : CanBeEncoded profile s samples
  pub none : stream_fault s t (sound_of profile s samples) ≡ None
  pub bytes : EncodedBy effort s t (sound_of profile s samples) stream

-- memory ran out, or this number is that of a reason
abbrev pub IsMemoryOr : (reason : Option ℕ) → ℕ → Type 0
IsMemoryOr reason n = (n ≡ 2) ⊎ (reason ≡ Some n)

-- memory ran out, or this is the number of the first reason
abbrev pub IsRefused : Profile → FlacProvedSettings → List ℤ → FlacProvedTags → ℕ → Type 0
IsRefused profile s samples t n =
    (n ≡ 2) ⊎ ((option_map setup.number_of (samples_fault profile s samples) ≡ Some n)
    ⊎ (CanBeEncoded profile s samples × (stream_fault s t (sound_of profile s samples) ≡ Some n)))

-- a stream of these samples and comments is written to the front of a buffer, as far as there is room
abbrev pub WritesEncoded : Profile → (effort : ℕ) → FlacProvedSettings → List ℤ → FlacProvedTags → (out new : List ℕ) → (len : ℕ) → Type 0
WritesEncoded profile effort s samples t out new len = (stream : List ℕ) × IsEncoded profile effort s samples t stream × IsCopied stream out new len

-- the same of the streamable subset (RFC 9639, section 7), without a search
abbrev pub WritesSubset : FlacProvedSettings → List ℤ → FlacProvedTags → (out new : List ℕ) → (len : ℕ) → Type 0
WritesSubset s samples t out new len = WritesEncoded Subset 0 s samples t out new len

-- the same by options: the profile, and the effort of the search
abbrev pub WritesBy : FlacProvedOptions → FlacProvedSettings → List ℤ → FlacProvedTags → (out new : List ℕ) → (len : ℕ) → Type 0
WritesBy o s samples t out new len = WritesEncoded (profile_of o.profile) o.effort s samples t out new len

abbrev pub RefusesBy : FlacProvedOptions → FlacProvedSettings → List ℤ → FlacProvedTags → ℕ → Type 0
RefusesBy o s samples t n = IsRefused (profile_of o.profile) s samples t n
