-- All whole frames of bytes, and what is missing between them.
use Rattle.std.specs.Prelude.{◌≡◌, ◌⊎◌, ℕ, ◌+◌, ◌<◌, ◌≤◌, List, [], ◌∷◌, ◌++◌, length, ◌↔◌}
use Rattle.flac_info.specs.Info.{Info}
use Rattle.flac_header.specs.declared.subset.Profile.{Profile}
use Rattle.flac_frame.specs.Frame.{Frame}
use Rattle.flac_salvage.specs.Standing.{Stands, NoneStands, IsNextWhole}

-- where a frame stands, in how many bytes
pub record Spot : Type 0 where
  pub at : ℕ
  pub len : ℕ
  pub frame : Frame

-- All whole frames from an offset on: each is the first that stands from the end of the one before it on, and none
-- stands after the last.
abbrev pub Found : Profile → Info → List ℕ → (from : ℕ) → List Spot → Type 0
Found profile i bytes from [] = NoneStands profile i bytes from
Found profile i bytes from (s ∷ more) = IsNextWhole profile i bytes from s.at s.frame s.len × Found profile i bytes (s.at + s.len) more

-- the offset is in the bytes of the frame
pub record Covers (k : ℕ) (s : Spot) : Type 0 where
  pub from : s.at ≤ k
  pub to : k < s.at + s.len

-- of one of a list
abbrev pub SomeOf : {A : Type 0} → (A → Type 0) → List A → Type 0
SomeOf P [] = ⊥
SomeOf P (x ∷ xs) = P x ⊎ SomeOf P xs

-- bytes from an offset up to another
pub record Range : Type 0 where
  pub start : ℕ
  pub end : ℕ

pub record IsIn (k : ℕ) (r : Range) : Type 0 where
  pub from : r.start ≤ k
  pub to : k < r.end

-- what is missing: the bytes up to the first frame, between one and the next, and after the last; a range may be empty
abbrev pub missing : (from end : ℕ) → List Spot → List Range
missing from end [] = record { start = from; end = end } ∷ []
missing from end (s ∷ more) = record { start = from; end = s.at } ∷ missing (s.at + s.len) end more

-- The frame is a found one, or begins inside one.
pub record IsMet (k : ℕ) (f : Frame) (n : ℕ) (s : Spot) : Type 0 where
  pub covered : Covers k s
  pub same : k ≡ s.at → (s.frame ≡ f) × (s.len ≡ n)

-- Each frame that stands whole is found, or begins inside a found one.
abbrev pub NoneIsMissed : Type 0
NoneIsMissed = (profile : Profile) (i : Info) (bytes : List ℕ) (from : ℕ) (spots : List Spot) → Found profile i bytes from spots
    → (k : ℕ) (f : Frame) (n : ℕ) → from ≤ k → Stands profile i bytes k f n → SomeOf (IsMet k f n) spots

-- Each byte is of a found frame or in a missing range.
abbrev pub EachIsTold : Type 0
EachIsTold = (profile : Profile) (i : Info) (bytes : List ℕ) (from : ℕ) (spots : List Spot) → Found profile i bytes from spots
    → (k : ℕ) → from ≤ k → k < length bytes → SomeOf (Covers k) spots ⊎ SomeOf (IsIn k) (missing from (length bytes) spots)

-- None is of both.
abbrev pub NoneIsBoth : Type 0
NoneIsBoth = (profile : Profile) (i : Info) (bytes : List ℕ) (from : ℕ) (spots : List Spot) → Found profile i bytes from spots
    → (k : ℕ) → SomeOf (Covers k) spots → SomeOf (IsIn k) (missing from (length bytes) spots) → ⊥

-- There is only one list of all whole frames.
abbrev pub FoundOnce : Type 0
FoundOnce = (profile : Profile) (i : Info) (bytes : List ℕ) (from : ℕ) (one other : List Spot) → Found profile i bytes from one → Found profile i bytes from other → one ≡ other

-- Whether a frame stands depends on its own bytes alone, so it may be looked for in a window of the input.
abbrev pub FramesAreLocal : Type 0
FramesAreLocal = (profile : Profile) (i : Info) (bytes more : List ℕ) (at : ℕ) (f : Frame) (n : ℕ) → at + n ≤ length bytes → Stands profile i bytes at f n ↔ Stands profile i (bytes ++ more) at f n
