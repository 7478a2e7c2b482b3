-- For proofs of the search and of writing: the shortest forms of subframes, and the end of a frame.
use Rattle.std.specs.Prelude.{◌≡◌, ℕ, ◌≤◌, Bool, ℤ, List, [], ◌∷◌, ◌++◌, length, Some, ⊤}
use Rattle.flac_bits.specs.Bits.{unsigned}
use Rattle.flac_bits.specs.State.{Mark, past}
use Rattle.flac_subframe.specs.declared.format.limits.Limits.{Limits}
use Rattle.flac_subframe.specs.declared.format.linear.LinearPredictor.{LinearPredictor}
use Rattle.flac_subframe.specs.format.Chosen.{offered}
use Rattle.flac_subframe.specs.format.Family.{Stands}
use Rattle.flac_subframe.specs.format.Handed.{AreWithin}
use Rattle.flac_subframe.specs.format.Least.{IsLeast}
use Rattle.flac_subframe.specs.format.Spelling.{subframe_spelling, IsSubframe}
use Rattle.flac_subframe.specs.format.Subframe.{Form, samples_of}
use Rattle.flac_frame.specs.PlaneLists.{Lists, same_list, later}

-- ---- a frame

-- no form in the family takes fewer bits for the samples: constant, verbatim, or a fixed predictor of order 0 to 4 with
-- either coding method, partition orders up to `most` and any parameter or escape, with all wasted bits left out; and
-- the same with the linear predictors of the list
abbrev pub IsLeastFor : (most : ℕ) → List LinearPredictor → ℕ → List ℤ → Form → Type 0
IsLeastFor most ps depth s f = IsLeast (λ g. Stands most (offered ps) g s) (λ g. length (subframe_spelling depth g)) f

-- each channel's subframe is the shortest by itself
abbrev pub AreLeast : (most : ℕ) → Lists → ℕ → List Form → List (List ℤ) → Type 0
AreLeast most lists depth [] [] = ⊤
AreLeast most lists depth [] (s ∷ ss) = ⊥
AreLeast most lists depth (f ∷ fs) [] = ⊥
AreLeast most lists depth (f ∷ fs) (s ∷ ss) = IsLeastFor most (lists 0) depth s f × AreLeast most (later lists) depth fs ss

-- ---- its parts

-- forms that may be spelled, if the orders of the predictors are within the limit, have the samples of channels, each
-- by itself
abbrev pub AreFormsByPlane : (most : ℕ) → Lists → (depth size : ℕ) → List Form → List (List ℤ) → Type 0
AreFormsByPlane most lists depth size [] [] = ⊤
AreFormsByPlane most lists depth size [] (s ∷ ss) = ⊥
AreFormsByPlane most lists depth size (f ∷ fs) [] = ⊥
AreFormsByPlane most lists depth size (f ∷ fs) (s ∷ ss) = ((limits : Limits) → most ≤ limits.partition → AreWithin limits.linear (lists 0) → IsSubframe depth size limits f) × (samples_of depth size f ≡ Some s) × AreFormsByPlane most (later lists) depth size fs ss

abbrev pub AreForms : (most : ℕ) → List LinearPredictor → (depth size : ℕ) → List Form → List (List ℤ) → Type 0
AreForms most ps = AreFormsByPlane most (same_list ps)

-- zeros up to a whole byte after a mark, and CRC-16
abbrev pub end_spelling : Mark → List Bool
end_spelling m = unsigned m.unread 0 ++ unsigned 16 (past (unsigned m.unread 0) m).check16
