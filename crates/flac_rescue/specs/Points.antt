-- Seek points of the frames of a native stream (RFC 9639, section 8.5.1).
use Rattle.std.specs.Prelude.{◌≡◌, ℕ, ◌+◌, ◌*◌, Bool, ◌&&◌, cond, nat_lt, List, [], ◌∷◌, ◌++◌, length, ⊤}
use Rattle.flac_info.specs.Info.{Info}
use Rattle.flac_meta.specs.declared.block.Block.{Block}
use Rattle.flac_meta.specs.declared.seek_table.SeekPoint.{SeekPoint}
use Rattle.flac_header.specs.declared.subset.Profile.TheVariants.{Lax}
use Rattle.flac_frame.specs.Frame.{Frame, first_sample}
use Rattle.flac_native.specs.Given.{blocks_in}
use Rattle.flac_salvage.specs.Standing.{Stands}
use Rattle.flac_rescue.specs.Head.{IsHead}
use Rattle.flac_rescue.specs.Survey.{BeginsWithInfo}

-- a frame, and how many bytes it has
pub record Sized : Type 0 where
  pub frame : Frame
  pub bytes : ℕ

-- ---- frames, the last of them first

-- how many samples each channel has in them, and how many bytes they have
abbrev pub samples_in : List Sized → ℕ
samples_in [] = 0
samples_in (w ∷ before) = samples_in before + w.frame.size

abbrev pub bytes_in : List Sized → ℕ
bytes_in [] = 0
bytes_in (w ∷ before) = bytes_in before + w.bytes

-- each stands where the one before it ends, and its number says that its samples come after those before it (section
-- 9.1.5)
abbrev pub FollowFrom : Info → List ℕ → (front : ℕ) → List Sized → Type 0
FollowFrom i bytes front [] = ⊤
FollowFrom i bytes front (w ∷ before) =
    FollowFrom i bytes front before × Stands Lax i bytes (front + bytes_in before) w.frame w.bytes × (first_sample i.greatest_block w.frame ≡ samples_in before)

-- a frame of `size` samples, the first of which has this number, has one whose number is a multiple of `every`
abbrev pub has_multiple : (every first size : ℕ) → Bool
has_multiple every first size = nat_lt 0 every && nat_lt (every * blocks_in every first) (first + size)

-- then it has a point
abbrev pub point_of : (every first offset size : ℕ) → List SeekPoint
point_of every first offset size = cond (has_multiple every first size) (record { sample = first; offset = offset; length = size } ∷ []) []

abbrev pub points_in : (every : ℕ) → List Sized → List SeekPoint
points_in every [] = []
points_in every (w ∷ before) = points_in every before ++ point_of every (samples_in before) (bytes_in before) w.frame.size

-- ---- the points of a stream

-- all bytes from an offset on are frames that follow each other, and these are the points of those
pub record ArePointsFrom (i : Info) (bytes : List ℕ) (front every : ℕ) (points : List SeekPoint) : Type 0 where
  pub frames : List Sized
  pub follow : FollowFrom i bytes front frames
  pub all : front + bytes_in frames ≡ length bytes
  pub are : points ≡ points_in every frames

-- the same of the bytes after the metadata
pub record ArePoints (bytes : List ℕ) (every : ℕ) (points : List SeekPoint) : Type 0 where
  pub blocks : List Block
  pub front : ℕ
  pub head : IsHead bytes blocks front
  pub info : Info
  pub begins : BeginsWithInfo info blocks
  pub from : ArePointsFrom info bytes front every points
