-- What is read of a line, which begins with the member of the path, and that a line is that of one file.
use Rattle.std.specs.Prelude.{◌≡◌, ◌⊎◌, ℕ, cond, nat_eq, List, [], ◌∷◌, ◌++◌, flat_map, map, codes, Option, Some, option_map}
use Rattle.std.specs.String.{string_bytes}
use Rattle.flac_shelf.specs.declared.past.Past.{Past}
use Rattle.flac_report.specs.Entries.{Entry, Fits, line_of, past_of}
use Rattle.flac_report.specs.declared.lines.Recorded.{Recorded}

-- a path, and what a report has of the file
abbrev pub said : Recorded → List ℕ × Past
said r = (string_bytes r.path, r.past)

-- if this is the line of a file, its path and what it says of the file were read
abbrev pub IsReadFrom : (line : List ℕ) → Option Recorded → Type 0
IsReadFrom line recorded =
    (e : Entry) → Fits e → line ≡ line_of e → option_map said recorded ≡ Some (e.path, past_of e)

-- the same of the path alone
abbrev pub IsPathFrom : (line : List ℕ) → Option (List ℕ) → Type 0
IsPathFrom line path = (e : Entry) → Fits e → line ≡ line_of e → path ≡ Some e.path

-- a text is what another begins with, or all of it
abbrev pub IsFrontOf : (front whole : List ℕ) → Type 0
IsFrontOf front whole = (rest : List ℕ) × (front ++ rest ≡ whole)

-- what each line of a report begins with
abbrev pub beginning : List ℕ
beginning = codes "{\"path\":\""

-- a line begins so, or was cut off before that
abbrev pub BeginsSo : (line : List ℕ) → Type 0
BeginsSo line = IsFrontOf beginning line ⊎ IsFrontOf line beginning

-- the lines of a text, each with its line feed; what comes after the last line feed is one more
abbrev pub onto_first : ℕ → List (List ℕ) → List (List ℕ)
onto_first b [] = (b ∷ []) ∷ []
onto_first b (line ∷ lines) = (b ∷ line) ∷ lines

abbrev pub lines_in : List ℕ → List (List ℕ)
lines_in [] = []
lines_in (b ∷ text) = cond (nat_eq b 10) ((b ∷ []) ∷ lines_in text) (onto_first b (lines_in text))

-- these are lines of the first of these files, of which the last may be cut off
abbrev pub AreFirstLines : List Entry → (lines : List (List ℕ)) → Type 0
AreFirstLines es [] = Unit {0}
AreFirstLines [] (line ∷ lines) = ⊥
AreFirstLines (e ∷ es) (line ∷ lines) =
    ((line ≡ line_of e) × AreFirstLines es lines) ⊎ (IsFrontOf line (line_of e) × (lines ≡ []))

-- A line is that of one path, and says one thing of the file.
abbrev pub LinesAreDetermined : Type 0
LinesAreDetermined =
    (a b : Entry) → Fits a → Fits b → line_of a ≡ line_of b → (a.path ≡ b.path) × (past_of a ≡ past_of b)

-- The lines of a report are those of its files, whatever their paths are.
abbrev pub LinesAreApart : Type 0
LinesAreApart = (es : List Entry) → lines_in (flat_map line_of es) ≡ map line_of es

-- Those of a report that was cut off are those of its first files; the last line may be a part of one.
abbrev pub CutReportsAreRead : Type 0
CutReportsAreRead =
    (es : List Entry) (part : List ℕ) → IsFrontOf part (flat_map line_of es) → AreFirstLines es (lines_in part)
