-- What steps of the search for the next whole frame find.
use Rattle.std.specs.Prelude.{◌≡◌, ℕ, ◌≤◌, List, Option, None, Result, IsOkAnd}
use Rattle.flac_info.specs.Info.{Info}
use Rattle.flac_header.specs.declared.subset.Profile.{Profile}
use Rattle.flac_frame.specs.Frame.{Frame}
use Rattle.flac_native.specs.FrameAt.{IsFrameAt}
use Rattle.flac_salvage.specs.Standing.{IsNextWhole, NoneBetween}

-- this holds of each frame with which the bytes begin, and of the number of its bytes
abbrev pub EachFrameAt : Profile → Info → List ℕ → (Frame → ℕ → Type 0) → Type 0
EachFrameAt profile i bytes Says = (f : Frame) (n : ℕ) → IsFrameAt profile i bytes f n → Says f n

-- the call held this frame, and returned the number of its bytes
abbrev pub IsHeldAs : {E : Type 0} → Result ℕ E → (held : Frame) → Frame → ℕ → Type 0
IsHeldAs result held f n = IsOkAnd result (λ m. (held ≡ f) × (m ≡ n))

-- the frame that is held is the next whole one, at this offset and with so many bytes
abbrev pub IsNextIn : Profile → Info → List ℕ → (from : ℕ) → (held : Frame) → ℕ × ℕ → Type 0
IsNextIn profile i bytes from held p = IsNextWhole profile i bytes from p.0 held p.1

-- the budget was spent at an offset, before which no frame stands; no frame is held before
abbrev pub IsSpentAt : {X : Type 0} → Profile → Info → List ℕ → (from : ℕ) → (before : Option X) → (budget at : ℕ) → Type 0
IsSpentAt profile i bytes from before budget at = (before ≡ None) × (budget ≡ 0) × (from ≤ at) × NoneBetween profile i bytes from at
