-- Reports as a program holds them.
use Rattle.std.specs.Prelude.{ℕ, List, [], ◌∷◌, cond, Option, Some, None, map, ◌≡◌}
use Rattle.std.specs.BTreeMap.{get_by_text}
use Rattle.std.specs.Cmp.Lexicographic.{slice_cmp}
use Rattle.std.specs.Ordering.{match_ordering, nat_cmp}
use Rattle.std.specs.Str.{bytes_eq}
use Rattle.std.specs.String.{string_bytes}
use Rattle.flac_shelf.specs.Listed.{Listed}
use Rattle.flac_shelf.specs.Past.{Report, compared_with}
use Rattle.flac_shelf.specs.declared.older.Older.{Older}
use Rattle.flac_shelf.specs.declared.past.Past.{Past}
use Rattle.flac_shelf.specs.declared.record.Record.{Record}

-- what it has at each path
abbrev pub report_of : Record → Report
report_of r path = get_by_text r.files path

-- it has this at this path, and at each other what another has
abbrev pub HasNoted : (old : Record) → (path : List ℕ) → Past → (new : Record) → Type 0
HasNoted old path past new = (other : List ℕ) → report_of new other ≡ cond (bytes_eq path other) (Some past) (report_of old other)

-- it has the same at each path
abbrev pub SaysTheSame : (old new : Record) → Type 0
SaysTheSame old new = (other : List ℕ) → report_of new other ≡ report_of old other

-- a file with what an older report has of it, if there is one
abbrev pub compared_by : Option Older → Listed → Listed
compared_by None file = file
compared_by (Some older) file = compared_with (report_of older.record) file

-- the paths that were not met, in the order of their bytes
abbrev pub left_in : Older → List (List ℕ)
left_in older = map string_bytes older.left.keys

abbrev pub left_of : Option Older → List (List ℕ)
left_of None = []
left_of (Some older) = left_in older

-- paths without this one
abbrev pub without : (path : List ℕ) → List (List ℕ) → List (List ℕ)
without path [] = []
without path (p ∷ ps) = cond (bytes_eq path p) ps (p ∷ without path ps)

-- paths without those of these files
abbrev pub without_all : List Listed → List (List ℕ) → List (List ℕ)
without_all [] paths = paths
without_all (file ∷ files) paths = without_all files (without file.path paths)

-- paths in the order of their bytes with this one, which is there once
abbrev pub with_path : (path : List ℕ) → List (List ℕ) → List (List ℕ)
with_path path [] = path ∷ []
with_path path (p ∷ ps) = match_ordering (slice_cmp nat_cmp path p) (path ∷ p ∷ ps) (p ∷ ps) (p ∷ with_path path ps)
