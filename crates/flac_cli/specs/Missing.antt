-- What `flac verify --all` says of a file that is refused: which samples of its stream are missing, and where.
use Rattle.std.specs.Prelude.{◌≡◌, ◌⊎◌, ⊤, ℕ, Bool, true, false, List, [], ◌∷◌, ◌++◌, codes, Option, Some, None}
use Rattle.flac_bits.specs.declared.why.Why.TheVariants as why
use Rattle.flac_rescue.specs.Placed.{left_text}
use Rattle.flac_rescue.specs.Survey.{IsSurvey, IsSurveyFault}
use Rattle.flac_rescue.specs.declared.survey.Survey.{Survey}
use Rattle.flac_rescue.specs.declared.survey.SurveyFault.{SurveyFault}
use Rattle.flac_rescue.specs.declared.survey.SurveyFault.TheVariants.{Head, Memory, Unordered}
use Rattle.flac_whole_pages.specs.Left.{IsNativeLeft}
use Rattle.flac_whole_pages.specs.declared.left.Left.{Left}
use Rattle.flac_shelf.specs.Listed.{Contents, Listed}
use Rattle.flac_shelf.specs.Shown.{shown}
use Rattle.flac_cli.specs.Verified.{bad_of, file_line}
use Rattle.flac_cli.specs.declared.verify.Finding.{Finding}
use Rattle.flac_cli.specs.declared.verify.Finding.TheVariants.{Good, Bad, Unopened}

-- these lines are those of a survey of the native stream that is left in these bytes
pub record IsSurveyed (path bytes text : List ℕ) : Type 0 where
  pub left : Left
  pub native : IsNativeLeft bytes left
  pub survey : Survey
  pub is : IsSurvey left.bytes.items survey
  pub lines : text ≡ left_text (shown path) left survey

-- memory ran out in a survey, which no bytes show
abbrev pub IsOutOfMemory : SurveyFault → Type 0
IsOutOfMemory (Head fault) = fault.why ≡ why.Memory
IsOutOfMemory Memory = ⊤
IsOutOfMemory Unordered = ⊥

-- What is left of a stream in these bytes is refused by a survey, by what they are: the marker or a metadata block is refused, or too many frames
-- are out of order.
pub record AreUnlisted (bytes : List ℕ) : Type 0 where
  pub left : Left
  pub native : IsNativeLeft bytes left
  pub fault : SurveyFault
  pub is : IsSurveyFault left.bytes.items fault
  pub shown : IsOutOfMemory fault → ⊥

-- the line of a file of which it is not said what is missing, and that of one for which memory ran out
abbrev pub unlisted_line : (path : List ℕ) → List ℕ
unlisted_line path = file_line path (codes "what is missing cannot be listed")

abbrev pub memory_line : (path : List ℕ) → List ℕ
memory_line path = file_line path (codes "what is missing cannot be listed: 2 Memory")

-- What is said of these bytes: the lines of their survey, or that they have none; or memory ran out, and the line says
-- that.
abbrev pub IsSaidOf : (path bytes text : List ℕ) → Type 0
IsSaidOf path bytes text = IsSurveyed path bytes text ⊎ ((AreUnlisted bytes × (text ≡ unlisted_line path)) ⊎ (text ≡ memory_line path))

-- They are read for that alone: once more, if they can be.
abbrev pub IsSaidIf : (again : Bool) → (path bytes text : List ℕ) → Type 0
IsSaidIf true path bytes text = IsSaidOf path bytes text
IsSaidIf false path bytes text = text ≡ unlisted_line path

-- what is said of a file
abbrev pub IsListing : (path : List ℕ) → Option Contents → (text : List ℕ) → Type 0
IsListing path None text = text ≡ unlisted_line path
IsListing path (Some of) text = IsSaidIf of.again path of.bytes text

-- it is said of a file that is refused, if all is asked for
abbrev pub asks_missing : (all : Bool) → Finding → Bool
asks_missing all (Good facts) = false
asks_missing all (Bad flaw) = all
asks_missing all Unopened = false

abbrev pub IsMissingIf : (asked : Bool) → Listed → (text : List ℕ) → Type 0
IsMissingIf true file text = IsListing file.path file.contents text
IsMissingIf false file text = text ≡ []

-- these texts are said of the files, in order
abbrev pub AreMissing : (all : Bool) → List Listed → List Finding → (texts : List (List ℕ)) → Type 0
AreMissing all [] [] [] = Unit {0}
AreMissing all (file ∷ files) (finding ∷ findings) (text ∷ texts) = IsMissingIf (asks_missing all finding) file text × AreMissing all files findings texts
AreMissing all files findings texts = ⊥

-- what all files add to standard error: each the line of its fault, and after it what is said of it
abbrev pub told_lines : List Listed → List Finding → (texts : List (List ℕ)) → List ℕ
told_lines [] findings texts = []
told_lines files [] texts = []
told_lines files findings [] = []
told_lines (file ∷ files) (finding ∷ findings) (text ∷ texts) = (bad_of file finding ++ text) ++ told_lines files findings texts
