-- For proofs of `flac verify --all`: a file that is read again.
use Rattle.std.specs.Prelude.{◌≡◌, ◌⊎◌, ℕ, Bool, List, Vec, Option, Some, None, Result, IfOk, IfErr}
use Rattle.std.specs.Global.{Global}
use Rattle.flac_bits.specs.declared.target.Target as target
use Rattle.flac_rescue.specs.Placed.{left_text}
use Rattle.flac_rescue.specs.Survey.{IsSurvey, IsSurveyFault}
use Rattle.flac_rescue.specs.declared.survey.Survey.{Survey}
use Rattle.flac_rescue.specs.declared.survey.SurveyFault.{SurveyFault}
use Rattle.flac_shelf.specs.Shown.{shown}
use Rattle.flac_whole_pages.specs.declared.left.Left.{Left}
use Rattle.flac_shelf.specs.Listed.{Contents, Listed}
use Rattle.flac_cli.specs.Missing.{IsOutOfMemory, IsSaidOf, IsListing, unlisted_line, memory_line, asks_missing}
use Rattle.flac_cli.specs.Verified.{IfNoneFails}
use Rattle.flac_cli.specs.inner.Verifying.{IsListed}
use Rattle.flac_cli.specs.declared.verify.Finding.{Finding}
use Rattle.flac_cli.specs.declared.verify_missing.Unlisted.{Unlisted}
use Rattle.flac_cli.specs.declared.verify_missing.Unlisted.TheVariants.{Unsurveyed, Memory}

-- these are the bytes of a file that can be opened
pub record IsContents (contents : Option Contents) (bytes : List ℕ) : Type 0 where
  pub of : Contents
  pub is : contents ≡ Some of
  pub all : bytes ≡ of.bytes

-- the same of a file of a list
abbrev pub HasContents : Listed → (bytes : Vec ℕ Global) → Type 0
HasContents file bytes = IsContents file.contents bytes.items

-- a file is not read again only if it cannot be opened, or if memory ran out
abbrev pub IsUnread : Option Contents → Unlisted → Type 0
IsUnread None e = e ≡ Unsurveyed
IsUnread (Some of) e = e ≡ Memory

abbrev pub IsUnreadFile : Listed → Unlisted → Type 0
IsUnreadFile file e = IsUnread file.contents e

-- the line of a file of which it is not said what is missing
abbrev pub line_for : (path : List ℕ) → Unlisted → List ℕ
line_for path Unsurveyed = unlisted_line path
line_for path Memory = memory_line path

-- what is left of a stream is refused by a survey, by what it is
pub record IsLeftUnlisted (bytes : List ℕ) : Type 0 where
  pub fault : SurveyFault
  pub is : IsSurveyFault bytes fault
  pub shown : IsOutOfMemory fault → ⊥

-- it is so, or memory ran out
abbrev pub IsUnsurveyed : (bytes : List ℕ) → Unlisted → Type 0
IsUnsurveyed bytes e = (e ≡ Memory) ⊎ (IsLeftUnlisted bytes × (e ≡ Unsurveyed))

-- these lines are those of a survey of what is left of a stream
abbrev pub AreLinesAbout : (path : List ℕ) → Left → (text : List ℕ) → Type 0
AreLinesAbout path l text = (s : Survey) × IsSurvey l.bytes.items s × (text ≡ left_text (shown path) l s)

-- what is said of a file that is read again
abbrev pub IsSaidAgain : (path : List ℕ) → Option Contents → (text : List ℕ) → Type 0
IsSaidAgain path None text = text ≡ unlisted_line path
IsSaidAgain path (Some of) text = IsSaidOf path of.bytes text

-- the same of the current file, and of the line in its place
abbrev pub AreSaidAgain : Listed → (text : List ℕ) → Type 0
AreSaidAgain file text = IsSaidAgain file.path file.contents text

abbrev pub SaysAgain : Listed → (text : Vec ℕ Global) → Type 0
SaysAgain file text = AreSaidAgain file text.items

abbrev pub IsUnsaid : Listed → Unlisted → Type 0
IsUnsaid file e = AreSaidAgain file (line_for file.path e)

-- what is said of it, if it can be read again
abbrev pub AreListed : Listed → (text : List ℕ) → Type 0
AreListed file text = IsListing file.path file.contents text

abbrev pub SaysListed : Listed → (text : Vec ℕ Global) → Type 0
SaysListed file text = AreListed file text.items

abbrev pub IsUnlisted : Listed → Unlisted → Type 0
IsUnlisted file e = AreListed file (line_for file.path e)

-- ---- the current file of a list, if none of its files failed

-- `known`, `faults` and `current` are what is known of lists of its type.

-- at Ok this holds of it and of what was returned
abbrev pub OkOfCurrent : {S X E : Type 0} (known : S → Bool) (faults : S → ℕ) (current : S → Listed) → (old new : S) → (Is : Listed → X → Type 0) → Result X E → Type 0
OkOfCurrent known faults current old new Is result = IfNoneFails known faults old new (IfOk result (λ x. Is (current old) x))

-- and at an error of it and of the error
abbrev pub ErrOfCurrent : {S X E : Type 0} (known : S → Bool) (faults : S → ℕ) (current : S → Listed) → (old new : S) → (Is : Listed → E → Type 0) → Result X E → Type 0
ErrOfCurrent known faults current old new Is result = IfNoneFails known faults old new (IfErr result (λ e. Is (current old) e))

-- what is said of it was sent, if that is asked for
abbrev pub ListsMissing : {S E : Type 0} (known : S → Bool) (faults : S → ℕ) (current : S → Listed) (k : target.Ghosts E) → (asked : Bool) → (old new : S) (before after : E) → Type 0
ListsMissing known faults current k asked old new before after = IfNoneFails known faults old new (IsListed k asked (current old) before after)

-- the same of a file that was found to be this
abbrev pub ListsIfAsked : {S E : Type 0} (known : S → Bool) (faults : S → ℕ) (current : S → Listed) (k : target.Ghosts E) → (all : Bool) → Finding → (old new : S) (before after : E) → Type 0
ListsIfAsked known faults current k all finding old new before after = ListsMissing known faults current k (asks_missing all finding) old new before after
