-- For proofs of the pass that judges raw samples.
use Rattle.std.specs.Prelude.{◌≡◌, ◌-◌, ◌*◌, ◌/◌, ◌%◌, ◌^◌, min, ℕ, Bool, List, length}
use Rattle.flac_frame.specs.Audio.{each_small}
use Rattle.flac_raw.specs.Raw.{raw_channels}
use Rattle.flac_raw.specs.Reading.{AreChannels}
use Rattle.flac_raw.specs.inner.Progress.{ReadTo}
use Rattle.flac_raw.specs.declared.blocks.RawBlocks.{RawBlocks}
use Rattle.flac_raw.specs.declared.judging.Survey.{Survey}

-- These bytes are whole inter-channel samples of `count` channels: `total` of them, a count that stops at 2^64 - 1. Whether
-- all samples have at most `bits` bits is `small`.
pub record IsSurvey (bits count width : ℕ) (bytes : List ℕ) (total : ℕ) (small : Bool) : Type 0 where
  pub whole : length bytes % (count * width) ≡ 0
  pub are : AreChannels bytes count width (raw_channels count width bytes)
  pub many : total ≡ min (length bytes / (count * width)) (2 ^ 64 - 1)
  pub fit : small ≡ each_small bits (raw_channels count width bytes)

-- the same of those that were read, so far
pub record SurveyedTo (bits count width : ℕ) (all coming : List ℕ) (total : ℕ) (small : Bool) : Type 0 where
  pub rows : ℕ
  pub so : ReadTo bits count width all coming rows small
  pub many : total ≡ min rows (2 ^ 64 - 1)

-- this is what was found of these bytes, read by such blocks
abbrev pub IsFound : (bits : ℕ) → RawBlocks → Survey → (bytes : List ℕ) → Type 0
IsFound bits b s bytes = IsSurvey bits (length b.lists.items) b.width bytes s.total s.small
