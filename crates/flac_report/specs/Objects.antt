-- Lines of JSON (RFC 8259, section 4): an object whose members are these, in this order, and a line feed.
use Rattle.std.specs.Prelude.{ℕ, List, [], ◌∷◌, ◌++◌, codes, Option, Some, None}
use Rattle.flac_json.specs.Json.{Json, number, object, Members, no_members, member, json_text}

pub record Member : Type 0 where
  pub name : List ℕ
  pub value : Json

abbrev pub members_of : List Member → Members
members_of [] = no_members
members_of (m ∷ ms) = member m.name m.value (members_of ms)

abbrev pub object_line : List Member → List ℕ
object_line ms = json_text (object (members_of ms)) ++ codes "\n"

-- ---- members that are left out if their value is not known

-- a member of this name; none if its value is not known
abbrev pub valued : (name : List ℕ) → Json → Option Member
valued name value = Some (record { name = name; value = value })

abbrev pub counted : (name : List ℕ) → Option ℕ → Option Member
counted name None = None
counted name (Some n) = valued name (number n)

-- the members that there are
abbrev pub present : List (Option Member) → List Member
present [] = []
present (None ∷ ms) = present ms
present (Some m ∷ ms) = m ∷ present ms
