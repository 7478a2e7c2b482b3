-- Where whole frames stand in bytes, whatever is around them (RFC 9639, section 9).
use Rattle.std.specs.Prelude.{◌≡◌, ℕ, ◌<◌, ◌≤◌, List, ◌++◌, length, drop}
use Rattle.flac_bits.specs.declared.why.Why.{Why}
use Rattle.flac_bits.specs.declared.why.Why.TheVariants.{Truncated}
use Rattle.flac_info.specs.Info.{Info}
use Rattle.flac_header.specs.declared.subset.Profile.{Profile}
use Rattle.flac_frame.specs.Frame.{Frame}
use Rattle.flac_native.specs.FrameAt.{IsFrameAt, NoFrameAt}

-- the frame stands whole at an offset, in n bytes
abbrev pub Stands : Profile → Info → List ℕ → (at : ℕ) → Frame → (n : ℕ) → Type 0
Stands profile i bytes at f n = IsFrameAt profile i (drop at bytes) f n

-- this holds of each frame that stands at an offset, and of the number of its bytes
abbrev pub EachStanding : Profile → Info → List ℕ → (at : ℕ) → (Frame → ℕ → Type 0) → Type 0
EachStanding profile i bytes at Says = (f : Frame) (n : ℕ) → Stands profile i bytes at f n → Says f n

-- no frame stands at an offset
abbrev pub NoneAt : Profile → Info → List ℕ → (at : ℕ) → Type 0
NoneAt profile i bytes at = (f : Frame) (n : ℕ) → Stands profile i bytes at f n → ⊥

-- none from an offset on
abbrev pub NoneStands : Profile → Info → List ℕ → (from : ℕ) → Type 0
NoneStands profile i bytes from = (k : ℕ) → from ≤ k → NoneAt profile i bytes k

-- none from an offset up to another
abbrev pub NoneBetween : Profile → Info → List ℕ → (from at : ℕ) → Type 0
NoneBetween profile i bytes from at = (k : ℕ) → k < at → from ≤ k → NoneAt profile i bytes k

-- the frame is the first that stands whole from an offset on, and the only one there
pub record IsNextWhole (profile : Profile) (i : Info) (bytes : List ℕ) (from at : ℕ) (f : Frame) (n : ℕ) : Type 0 where
  pub after : from ≤ at
  pub stands : Stands profile i bytes at f n
  pub least : NoneBetween profile i bytes from at
  pub only : (g : Frame) (m : ℕ) → Stands profile i bytes at g m → (f ≡ g) × (n ≡ m)

-- there is no frame at an offset, for this reason
abbrev pub IsRefusedAt : Profile → Info → List ℕ → (at : ℕ) → Why → Type 0
IsRefusedAt profile i bytes at why = NoFrameAt profile i (drop at bytes) why

-- If the reason is not that the bytes end, there is none whatever follows.
abbrev pub RefusalsAreFinal : Type 0
RefusalsAreFinal = (profile : Profile) (i : Info) (bytes more : List ℕ) (at : ℕ) (why : Why) → at ≤ length bytes → IsRefusedAt profile i bytes at why → (why ≡ Truncated → ⊥) → NoneAt profile i (bytes ++ more) at
