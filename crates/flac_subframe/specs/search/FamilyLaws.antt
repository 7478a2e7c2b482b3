-- The forms among which a choice is the shortest, in plain words, and the laws of them.
use Rattle.std.specs.Prelude.{◌≡◌, ℕ, ◌<◌, ◌≤◌, ◌⊎◌, ℤ, List, [], ◌∷◌, length, Some, All}
use Rattle.flac_bits.specs.Signed.{FitsBits}
use Rattle.flac_subframe.specs.declared.format.limits.Limits.{Limits}
use Rattle.flac_subframe.specs.declared.format.linear.LinearPredictor.{LinearPredictor}
use Rattle.flac_subframe.specs.format.Chosen.{fixed_below, offered}
use Rattle.flac_subframe.specs.format.Handed.{handed, AreWithin}
use Rattle.flac_subframe.specs.format.Family.{Stands}
use Rattle.flac_subframe.specs.format.Spelling.{IsSubframe}
use Rattle.flac_subframe.specs.format.Subframe.{Content, Constant, Verbatim, Fixed, Linear, Predictor, Form, samples_of}
use Rattle.flac_subframe.specs.format.Wasted.{IsWasted}

-- ---- the family whose shortest form is searched for

-- one sample for all, all samples, or a fixed predictor
abbrev pub WithoutLinear : Content → Type 0
WithoutLinear (Constant sample) = Unit {0}
WithoutLinear (Verbatim samples) = Unit {0}
WithoutLinear (Fixed warm_up rest) = Unit {0}
WithoutLinear (Linear warm_up chosen rest) = ⊥

-- a form of the family, for its samples: its wasted bits are the most that they all have
pub record InFamily (f : Form) (s : List ℤ) : Type 0 where
  pub plain : WithoutLinear f.content
  pub wasted : IsWasted f.wasted s

-- each form of the family that may be spelled encodes its samples: a choice is the shortest of the forms that do
abbrev pub FamilyIsWhole : Type 0
FamilyIsWhole = (depth block : ℕ) (limits : Limits) (f : Form) (s : List ℤ) → limits.partition ≤ 8 → IsSubframe depth block limits f → samples_of depth block f ≡ Some s → InFamily f s
    → Stands 8 (fixed_below 5) f s

-- conversely, each form that encodes samples of a depth may be spelled in a block of as many, has these samples, and is
-- of the family
abbrev pub FamilyIsPlain : Type 0
FamilyIsPlain = (depth : ℕ) (limits : Limits) (f : Form) (s : List ℤ) → 1 ≤ depth → 0 < length s → 8 ≤ limits.partition → All (FitsBits depth) s → Stands 8 (fixed_below 5) f s
    → IsSubframe depth (length s) limits f × (samples_of depth (length s) f ≡ Some s) × InFamily f s

-- ---- the family with linear predictors

-- the predictor is one of the list
abbrev pub IsOneOf : Predictor → List LinearPredictor → Type 0
IsOneOf p [] = ⊥
IsOneOf p (q ∷ qs) = (p ≡ handed q) ⊎ IsOneOf p qs

-- one sample for all, all samples, a fixed predictor, or a linear one of the list
abbrev pub WithLinear : List LinearPredictor → Content → Type 0
WithLinear ps (Constant sample) = Unit {0}
WithLinear ps (Verbatim samples) = Unit {0}
WithLinear ps (Fixed warm_up rest) = Unit {0}
WithLinear ps (Linear warm_up chosen rest) = IsOneOf chosen ps

-- a form of the family with linear predictors, for its samples: its wasted bits are the most that they all have
pub record InFamilyWith (ps : List LinearPredictor) (f : Form) (s : List ℤ) : Type 0 where
  pub plain : WithLinear ps f.content
  pub wasted : IsWasted f.wasted s

-- each form of this family that may be spelled, with a partition order of at most `most`, encodes its samples
abbrev pub FamilyWithIsWhole : Type 0
FamilyWithIsWhole = (most depth block : ℕ) (limits : Limits) (ps : List LinearPredictor) (f : Form) (s : List ℤ) → limits.partition ≤ most → IsSubframe depth block limits f → samples_of depth block f ≡ Some s
    → InFamilyWith ps f s → Stands most (offered ps) f s

-- conversely, if the order of each predictor is within the limit
abbrev pub FamilyWithIsPlain : Type 0
FamilyWithIsPlain = (most depth : ℕ) (limits : Limits) (ps : List LinearPredictor) (f : Form) (s : List ℤ) → 1 ≤ depth → 0 < length s → most ≤ limits.partition → most ≤ 15 → AreWithin limits.linear ps
    → All (FitsBits depth) s → Stands most (offered ps) f s → IsSubframe depth (length s) limits f × (samples_of depth (length s) f ≡ Some s) × InFamilyWith ps f s
