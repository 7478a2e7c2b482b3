-- A whole frame at the front of bytes, whatever follows it (RFC 9639, section 9).
use Rattle.std.specs.Prelude.{◌≡◌, ℕ, ◌≤◌, Bool, List, ◌++◌, length, drop, Some, None}
use Rattle.flac_bits.specs.Bits.{bits_of}
use Rattle.flac_bits.specs.Meaning.{Spells}
use Rattle.flac_bits.specs.Fence.{InRoom, StopsIn}
use Rattle.flac_bits.specs.declared.why.Why.{Why}
use Rattle.flac_bits.specs.declared.why.Why.TheVariants.{Truncated}
use Rattle.flac_info.specs.Info.{Info}
use Rattle.flac_header.specs.declared.subset.Profile.{Profile}
use Rattle.flac_frame.specs.Frame.{Frame, frame}
use Rattle.flac_native.specs.Decoding.{beginning}

-- The first n of these bytes spell the frame, whatever its number is, and are no more than a frame may have.
pub record IsFrameAt (profile : Profile) (i : Info) (bytes : List ℕ) (f : Frame) (n : ℕ) : Type 0 where
  pub text : List Bool
  pub split : bits_of bytes ≡ text ++ bits_of (drop n bytes)
  pub within : n ≤ length bytes
  pub spelled : Spells (frame profile i None) (beginning Truncated) text f
  pub room : InRoom (Some 16777215) (beginning Truncated) text

-- there is no frame of these bytes, for this reason
abbrev pub NoFrameAt : Profile → Info → List ℕ → Why → Type 0
NoFrameAt profile i bytes why = StopsIn (Some 16777215) (frame profile i None) (beginning Truncated) (bits_of bytes) why
