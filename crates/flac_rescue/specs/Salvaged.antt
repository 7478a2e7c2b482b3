-- The samples that are made of what is left of a damaged stream (RFC 9639, sections 8.2 and 9).
use Rattle.std.specs.Prelude.{◌≡◌, ◌⊎◌, ℕ, ℤ, ◌+◌, ◌-◌, ◌*◌, ◌^◌, min, Bool, true, ◌&&◌, cond, nat_lt, List, [], ◌∷◌, replicate, Vec, map}
use Rattle.std.specs.List.{AllZip}
use Rattle.flac_info.specs.Info.{Info}
use Rattle.flac_header.specs.declared.subset.Profile.TheVariants.{Lax}
use Rattle.flac_frame.specs.Frame.{Frame, first_sample}
use Rattle.flac_salvage.specs.Standing.{Stands}
use Rattle.flac_salvage.specs.declared.find.WholeFrame.{WholeFrame}
use Rattle.flac_rescue.specs.Channels.{extended, with_silence}
use Rattle.flac_rescue.specs.Gaps.{last_of}
use Rattle.flac_rescue.specs.declared.missing.Gap.{Gap}
use Rattle.flac_rescue.specs.declared.salvage.SalvageFault.{SalvageFault}
use Rattle.flac_rescue.specs.declared.salvage.SalvageFault.TheVariants as fault
use Rattle.flac_rescue.specs.declared.survey.Survey.{Survey}
use Rattle.std.specs.declared.alloc.Global.{Global}

-- ---- the frames

-- the frame that stands where one is kept, with its first sample and its block size
pub record IsKept (i : Info) (bytes : List ℕ) (w : WholeFrame) (f : Frame) : Type 0 where
  pub stands : Stands Lax i bytes w.at f w.bytes
  pub first : w.first ≡ first_sample i.greatest_block f
  pub size : w.size ≡ f.size

-- ---- the samples

-- channels with so many missing samples: with silence in their place, or without them
abbrev pub with_missing : (silence : Bool) → ℕ → (channels : List (List ℤ)) → List (List ℤ)
with_missing silence n channels = cond silence (with_silence n channels) channels

-- Channels that go on at the sample `from` with frames: what is missing before each, then its samples; and after the last
-- frame what is missing up to the total, if one is stated. So with silence each sample is at its own number.
unfoldable pub salvaged : (silence : Bool) (block_size total from : ℕ) (channels : List (List ℤ)) → List Frame → List (List ℤ)
salvaged silence block_size total from channels [] = with_missing silence (last_of total from - from) channels
salvaged silence block_size total from channels (f ∷ more) =
    salvaged silence block_size total (first_sample block_size f + f.size)
    (extended (with_missing silence (first_sample block_size f - from) channels) f.channels) more

-- to these channels the samples of the frames that are kept were added, and what is missing
abbrev pub AddsFrames : Info → (bytes : List ℕ) → (silence : Bool) → List WholeFrame → (old new : List (List ℤ)) → Type 0
AddsFrames i bytes silence kept old new = (frames : List Frame) → AllZip (IsKept i bytes) kept frames → new ≡ salvaged silence i.greatest_block i.total 0 old frames

-- the same of vectors of samples
abbrev pub HasAddedFrames : Info → (bytes : List ℕ) → (silence : Bool) → List WholeFrame → (old new : List (Vec ℤ Global)) → Type 0
HasAddedFrames i bytes silence kept old new = AddsFrames i bytes silence kept (map (λ c. c.items) old) (map (λ c. c.items) new)

-- These are the samples of each channel that are made of what was found of a stream: of the frames that are kept.
pub record AreSalvaged (bytes : List ℕ) (s : Survey) (silence : Bool) (channels : List (List ℤ)) : Type 0 where
  pub frames : List Frame
  pub kept : AllZip (IsKept s.info bytes) s.kept.items frames
  pub are : channels ≡ salvaged silence s.info.greatest_block s.info.total 0 (replicate s.info.channels []) frames

-- ---- too much silence

-- a number of samples, and those that are missing in these gaps; at most 2^64 - 1
unfoldable pub and_missing : ℕ → List Gap → ℕ
and_missing n [] = n
and_missing n (g ∷ more) = and_missing (min (n + (g.next - g.first)) (2 ^ 64 - 1)) more

-- the silence would have more than 2^30 samples, those of all channels counted (own)
abbrev pub is_too_long : (silence : Bool) → Survey → Bool
is_too_long silence s = silence && nat_lt (2 ^ 30) (min (and_missing 0 s.gaps.items * s.info.channels) (2 ^ 64 - 1))

-- memory ran out, or that is so
abbrev pub IsSalvageFault : (silence : Bool) → Survey → SalvageFault → Type 0
IsSalvageFault silence s e = (e ≡ fault.Memory) ⊎ ((e ≡ fault.TooLong) × (is_too_long silence s ≡ true))
