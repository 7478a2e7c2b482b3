-- Lines of JSON (RFC 8259) as a program has them: an object of numbers, texts and truth values.
use Rattle.std.specs.Prelude.{◌≡◌, ℕ, List, [], ◌∷◌, Option, Some, None}
use Rattle.flac_json.specs.Texts.{all_digits}
use Rattle.flac_json.specs.Json.{Json, number, text, truth, AreSmallMembers}
use Rattle.flac_report.specs.Objects.{Member, members_of, object_line}
use Rattle.flac_cli.specs.declared.json.Member.{Member as Given}
use Rattle.flac_cli.specs.declared.json.Value.{Value as GivenValue}
use Rattle.flac_cli.specs.declared.json.Value.TheVariants as given

-- a line is that of one list of members whose numbers have 64 bits
abbrev pub LinesHaveOneReading : Type 0
LinesHaveOneReading = (a b : List Member) → AreSmallMembers (members_of a) → AreSmallMembers (members_of b) → object_line a ≡ object_line b → a ≡ b

-- ---- members as a program has them (section 4)

abbrev pub value_of : GivenValue → Json
value_of (given.Number n) = number n
value_of (given.Text t) = text t.now
value_of (given.Digits bytes) = text (all_digits bytes.now)
value_of (given.Truth b) = truth b

abbrev pub member_of : Given → Member
member_of m = record { name = m.name.now; value = value_of m.value }

-- those that there are
abbrev pub known_members : List (Option Given) → List Member
known_members [] = []
known_members (None ∷ ms) = known_members ms
known_members (Some m ∷ ms) = member_of m ∷ known_members ms

-- the line of the first of them and those of the others that there are
abbrev pub given_line : (first : Given) → List (Option Given) → List ℕ
given_line first members = object_line (member_of first ∷ known_members members)
