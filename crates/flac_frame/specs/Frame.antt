-- A frame: its header, a subframe for each channel, and its check (RFC 9639, section 9).
use Rattle.std.specs.Prelude.{ℕ, zero, suc, ◌+◌, ◌*◌, Bool, true, false, not, cond, ◌&&◌, ◌||◌, nat_eq, nat_lt, nat_le, min, ℤ, List, [], ◌∷◌, ◌++◌, Option, Some, None, ⊤}
use Rattle.flac_bits.specs.Layout.{Layout, Rule, done, bits, judge, refuse, mark, align, ◌>>=◌}
use Rattle.flac_bits.specs.declared.why.Why.{Why}
use Rattle.flac_bits.specs.declared.why.Why.TheVariants.{NotSubset, HeaderMismatch, Sequence, BlockSize, NonzeroPadding, FrameCheck, SampleRange}
use Rattle.flac_header.specs.Header.{Header, header, allowed, channels_of, depth_of, greatest_in}
use Rattle.flac_header.specs.declared.subset.Profile.{Profile}
use Rattle.flac_header.specs.declared.subset.Profile.TheVariants.{Subset, Lax}
use Rattle.flac_info.specs.Info.{Info}
use Rattle.flac_subframe.specs.declared.format.limits.Limits.{Limits}
use Rattle.flac_subframe.specs.format.Numbers.{all_fit}
use Rattle.flac_subframe.specs.format.Subframe.{subframe_samples}
use Rattle.flac_frame.specs.Stereo.{joined}
use Rattle.flac_frame.specs.declared.before.Before.{Before}

-- A frame: whether its number is that of its first sample, the number, the block size, and the samples of each channel.
pub record Frame : Type 0 where
  pub variable : Bool
  pub number : ℕ
  pub size : ℕ
  pub channels : List (List ℤ)

-- the number of a frame's first sample, by its header: coded there, or as many blocks before it as the number of the
-- frame (section 9.1.5)
abbrev pub first_sample : (block_size : ℕ) → Frame → ℕ
first_sample block_size f = cond f.variable f.number (f.number * block_size)

-- the state after a frame: frames are counted, or numbered by their first samples (section 9.1.5)
abbrev pub left_by : Option Before → (variable : Bool) → (number size : ℕ) → Before
left_by None variable number size = record { first_size = size; variable = variable; next = number + cond variable size 1; size = size }
left_by (Some b) variable number size = record { first_size = b.first_size; variable = variable; next = number + cond variable size 1; size = size }

abbrev pub after_frame : Option Before → Frame → Before
after_frame before f = left_by before f.variable f.number f.size

-- the longest block of a stream, by STREAMINFO and by its profile (sections 7 and 8.2)
abbrev pub longest_block : Profile → Info → ℕ
longest_block profile info = min info.greatest_block (greatest_in profile info.rate)

-- ---- the rules at the end of a frame's header

-- a code of 0 leaves the rate, or the depth, to STREAMINFO (sections 9.1.2 and 9.1.4), which the subset does not allow
abbrev pub leaves_out : Profile → (code : ℕ) → Bool
leaves_out Subset code = false
leaves_out Lax code = nat_eq code 0

-- the rate and the depth of a frame, by its header
abbrev pub rate_in : Profile → Info → Header → ℕ
rate_in profile info h = cond (leaves_out profile h.rate_code) info.rate h.rate

abbrev pub depth_in : Profile → Info → Header → ℕ
depth_in profile info h = cond (leaves_out profile h.depth_code) info.depth (depth_of h.depth_code)

-- rate, channel count or depth is not that of STREAMINFO
abbrev pub differs : Profile → Info → Header → Bool
differs profile info h = not (nat_eq (rate_in profile info h) info.rate && nat_eq (channels_of h.channel_code) info.channels && nat_eq (depth_in profile info h) info.depth)

-- the blocking strategy changes, or the number does not follow on
abbrev pub breaks_sequence : Option Before → Header → Bool
breaks_sequence None h = false
breaks_sequence (Some b) h = cond h.variable (not b.variable) b.variable || not (nat_eq h.number b.next)

-- The block is longer than any may be; or the one before, which now is not the last, is shorter than all but the last
-- may be; or, with fixed blocking, the one before has not the size of the first, or this one is longer than that.
abbrev pub breaks_size : Info → Option Before → Header → Bool
breaks_size info None h = nat_lt info.greatest_block h.size
breaks_size info (Some b) h = nat_lt info.greatest_block h.size || nat_lt b.size info.least_block || (not h.variable && (not (nat_eq b.size b.first_size) || nat_lt b.first_size h.size))

-- the rules at the end of a header, in the order of rank
abbrev pub header_rules : Profile → Info → Option Before → Header → List Rule
header_rules profile info before h =
    record { broken = not (allowed profile h); why = NotSubset } ∷
    record { broken = differs profile info h; why = HeaderMismatch } ∷
    record { broken = breaks_sequence before h; why = Sequence } ∷
    record { broken = breaks_size info before h; why = BlockSize } ∷ []

-- a header in a stream
unfoldable pub stream_header : Profile → Info → Option Before → Layout Header
stream_header profile info before = do
  h ← header
  _ ← judge (header_rules profile info before h)
  done h

-- ---- the subframes

-- what a profile allows of a subframe: the subset (section 7), or all values of the fields (sections 9.2.1 and 9.2.7)
abbrev pub limits_at : Profile → (rate : ℕ) → Limits
limits_at Subset rate = record { partition = 8; linear = cond (nat_le rate 48000) 12 32 }
limits_at Lax rate = record { partition = 15; linear = 32 }

abbrev pub limits_of : Profile → Info → Limits
limits_of profile info = limits_at profile info.rate

-- the side channel has one bit more: the second of codes 8 and 10, the first of code 9 (section 9.2.3)
unfoldable pub side_bit : ℕ → ℕ → ℕ
side_bit code channel = cond (nat_eq code 9) (cond (nat_eq channel 0) 1 0) (cond (nat_lt 7 code && nat_eq channel 1) 1 0)

-- the samples of one more channel, if those of all channels fit
abbrev pub with_channel : Option (List (List ℤ)) → Option (List ℤ) → Option (List (List ℤ))
with_channel (Some channels) (Some channel) = Some (channels ++ channel ∷ [])
with_channel (Some channels) None = None
with_channel None channel = None

-- The subframes of n channels from one on, after those that were read.
unfoldable pub subframes : (depth code block : ℕ) → Limits → Option (List (List ℤ)) → (channel n : ℕ) → Layout (Option (List (List ℤ)))
subframes depth code block limits got channel zero = done got
subframes depth code block limits got channel (suc n) = do
  samples ← subframe_samples (depth + side_bit code channel) block limits
  subframes depth code block limits (with_channel got samples) (channel + 1) n

-- ---- the end

abbrev pub check16 : Layout ℕ
check16 = mark >>= λ m. done m.check16

-- zeros up to a whole byte, and CRC-16 of the frame so far (section 9.3)
unfoldable pub frame_end : Layout ⊤
frame_end = do
  zeros ← align
  _ ← judge (record { broken = not zeros; why = NonzeroPadding } ∷ [])
  check ← check16
  stored ← bits 16
  judge (record { broken = not (nat_eq stored check); why = FrameCheck } ∷ [])

-- ---- the samples

abbrev pub each_fits : ℕ → List (List ℤ) → Bool
each_fits depth [] = true
each_fits depth (channel ∷ channels) = cond (all_fit depth channel) (each_fits depth channels) false

-- the samples of all channels, if each fits the depth
abbrev pub in_range : (depth code : ℕ) → Option (List (List ℤ)) → Option (List (List ℤ))
in_range depth code None = None
in_range depth code (Some channels) = cond (each_fits depth (joined code channels)) (Some (joined code channels)) None

-- the value, or the reason if there is none
abbrev pub some_or : {A : Type 0} → Why → Option A → Layout A
some_or why (Some x) = done x
some_or why None = refuse why

-- what follows a header: a subframe for each channel, the end, and the samples
unfoldable pub frame_body : Profile → Info → Header → Layout Frame
frame_body profile info h = do
  samples ← subframes info.depth h.channel_code h.size (limits_of profile info) (Some []) 0 info.channels
  _ ← frame_end
  channels ← some_or SampleRange (in_range info.depth h.channel_code samples)
  done (record { variable = h.variable; number = h.number; size = h.size; channels = channels })

-- a frame after those before it
unfoldable pub frame : Profile → Info → Option Before → Layout Frame
frame profile info before = do
  h ← stream_header profile info before
  frame_body profile info h
