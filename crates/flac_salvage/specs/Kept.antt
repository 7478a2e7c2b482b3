-- What a search keeps of the whole frames that it finds.
use Rattle.std.specs.Prelude.{◌≡◌, ℕ, ◌+◌, ◌≤◌, List, [], ◌∷◌, map, Option, Some, None}
use Rattle.flac_info.specs.Info.{Info}
use Rattle.flac_header.specs.declared.subset.Profile.{Profile}
use Rattle.flac_frame.specs.Frame.{first_sample}
use Rattle.flac_salvage.specs.Standing.{IsNextWhole, NoneBetween}
use Rattle.flac_salvage.specs.Found.{Spot, Found}
use Rattle.flac_salvage.specs.declared.find.WholeFrame.{WholeFrame}

-- The whole frames from an offset up to another: each is the first that stands from the end of the one before it on, and
-- none stands after the last up to the end.
abbrev pub FoundUpTo : Profile → Info → List ℕ → (end from : ℕ) → List Spot → Type 0
FoundUpTo profile i bytes end from [] = (from ≤ end) × NoneBetween profile i bytes from end
FoundUpTo profile i bytes end from (s ∷ more) =
    IsNextWhole profile i bytes from s.at s.frame s.len × FoundUpTo profile i bytes end (s.at + s.len) more

-- all of them, or those up to the offset at which the search ended
abbrev pub FoundIn : Profile → Info → List ℕ → (from : ℕ) → (cut : Option ℕ) → List Spot → Type 0
FoundIn profile i bytes from None spots = Found profile i bytes from spots
FoundIn profile i bytes from (Some end) spots = FoundUpTo profile i bytes end from spots

-- where a frame stands, its first sample and its block size; frames of fixed blocking count blocks of this size
abbrev pub kept_of : (block_size : ℕ) → Spot → WholeFrame
kept_of block_size s = record { at = s.at; bytes = s.len; first = first_sample block_size s.frame; size = s.frame.size }

-- these were kept of the frames that were found
pub record AreFound (profile : Profile) (i : Info) (bytes : List ℕ) (from : ℕ) (cut : Option ℕ) (frames : List WholeFrame) : Type 0 where
  pub spots : List Spot
  pub found : FoundIn profile i bytes from cut spots
  pub kept : map (kept_of i.greatest_block) spots ≡ frames
