-- The form of a choice of the search.
use Rattle.std.specs.Prelude.{ℕ, ℤ, ◌≡◌, ◌≤◌, ◌+◌, ◌*◌, ◌^◌, Bool, List, [], length, take, Some}
use Rattle.flac_subframe.specs.declared.format.limits.Limits.{Limits}
use Rattle.flac_subframe.specs.declared.search.chosen.Choice.{Choice}
use Rattle.flac_subframe.specs.declared.search.wide_choice.WideChoice.{WideChoice}
use Rattle.flac_subframe.specs.declared.format.linear.LinearPredictor.{LinearPredictor}
use Rattle.flac_subframe.specs.format.Bodies.{Chooses}
use Rattle.flac_subframe.specs.format.Chosen.{offered}
use Rattle.flac_subframe.specs.format.Family.{form_as, IsMadeAs, Stands}
use Rattle.flac_subframe.specs.format.Handed.{AreWithin}
use Rattle.flac_subframe.specs.format.Least.{IsLeast}
use Rattle.flac_subframe.specs.format.Spelling.{IsSubframe, subframe_spelling}
use Rattle.flac_subframe.specs.format.Subframe.{Form, samples_of}

-- the form is the shortest of those that encode samples of a depth, with a partition order of at most `most` and one of
-- the predictors if it has one
abbrev pub IsShortest : ℕ → List Chooses → ℕ → List ℤ → Form → Type 0
IsShortest most predictors depth s form = IsLeast (λ f. Stands most predictors f s) (λ f. length (subframe_spelling depth f)) form

-- the form may be spelled in a block of as many samples within any limits that allow the partition order and the
-- predictors
abbrev pub IsAllowed : ℕ → List LinearPredictor → ℕ → List ℤ → Form → Type 0
IsAllowed partition ps depth s form = (most : Limits) → partition ≤ most.partition → AreWithin most.linear ps → IsSubframe depth (length s) most form

-- the same without linear predictors
abbrev pub IsAllowedFrom : ℕ → ℕ → List ℤ → Form → Type 0
IsAllowedFrom partition depth s form = (most : Limits) → partition ≤ most.partition → IsSubframe depth (length s) most form

-- n for each sample and predictor, the five fixed ones among them
abbrev pub for_each : ℕ → List LinearPredictor → List ℤ → ℕ
for_each n ps s = (5 + length ps) * (n * length s)

-- ---- a choice with partition orders up to 8

-- the bytes of a choice's codings, the first ones of its array
abbrev pub bytes_used : Choice → List ℕ
bytes_used c = take (2 ^ c.form.residual.partition_order) c.codings

-- the form of a choice; a linear predictor is from the list
abbrev pub form_with : List LinearPredictor → Choice → List ℤ → Form
form_with ps c s = form_as ps c.form (bytes_used c) s

-- the choice was made for these samples, with a fixed predictor or a linear one of the list if it has one
abbrev pub IsMadeWith : List LinearPredictor → Choice → List ℤ → Type 0
IsMadeWith ps c s = IsMadeAs 8 ps c.form (bytes_used c) s

-- its form is the shortest of samples of a depth, with a fixed predictor or a linear one of the list if it has one
abbrev pub ChoosesShortestWith : ℕ → List LinearPredictor → Choice → ℕ → List ℤ → Type 0
ChoosesShortestWith most ps c depth s = IsShortest most (offered ps) depth s (form_with ps c s)

-- its form may be spelled, has the samples, and is spelled so
abbrev pub ChoosesAllowedWith : ℕ → List LinearPredictor → Choice → ℕ → List ℤ → Type 0
ChoosesAllowedWith most ps c depth s = IsAllowed most ps depth s (form_with ps c s)

abbrev pub RestoresWith : List LinearPredictor → Choice → ℕ → List ℤ → Type 0
RestoresWith ps c depth s = samples_of depth (length s) (form_with ps c s) ≡ Some s

abbrev pub spelling_with : List LinearPredictor → Choice → ℕ → List ℤ → List Bool
spelling_with ps c depth s = subframe_spelling depth (form_with ps c s)

-- the same without linear predictors
abbrev pub form_of : Choice → List ℤ → Form
form_of c s = form_with [] c s

abbrev pub IsMadeOf : Choice → List ℤ → Type 0
IsMadeOf c s = IsMadeWith [] c s

-- ---- a choice in an array that is used again, with partition orders up to 15

-- the bytes of a choice's codings, the first ones of its array
abbrev pub bytes_kept : WideChoice → List ℕ
bytes_kept c = take (2 ^ c.form.residual.partition_order) c.codings.items

-- the form of a choice; a linear predictor is from the list
abbrev pub form_in : List LinearPredictor → WideChoice → List ℤ → Form
form_in ps c s = form_as ps c.form (bytes_kept c) s

-- its form is the shortest of samples of a depth, with a fixed predictor or a linear one of the list if it has one
abbrev pub ChoosesShortestIn : ℕ → List LinearPredictor → WideChoice → ℕ → List ℤ → Type 0
ChoosesShortestIn most ps c depth s = IsShortest most (offered ps) depth s (form_in ps c s)

-- its form may be spelled, has the samples, and is spelled so
abbrev pub ChoosesAllowedIn : ℕ → List LinearPredictor → WideChoice → ℕ → List ℤ → Type 0
ChoosesAllowedIn most ps c depth s = IsAllowed most ps depth s (form_in ps c s)

abbrev pub RestoresIn : List LinearPredictor → WideChoice → ℕ → List ℤ → Type 0
RestoresIn ps c depth s = samples_of depth (length s) (form_in ps c s) ≡ Some s

abbrev pub spelling_in : List LinearPredictor → WideChoice → ℕ → List ℤ → List Bool
spelling_in ps c depth s = subframe_spelling depth (form_in ps c s)

-- the choice was made for these samples, with a fixed predictor or a linear one of the list if it has one
pub record IsMadeIn (ps : List LinearPredictor) (c : WideChoice) (s : List ℤ) : Type 0 where
  pub made : IsMadeAs 15 ps c.form (bytes_kept c) s
  pub few : c.form.residual.partition_order ≤ 15
  pub places : 2 ^ c.form.residual.partition_order ≤ length c.codings.items
