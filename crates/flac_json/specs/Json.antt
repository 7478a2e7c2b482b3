-- Values of JSON and their texts (RFC 8259), without spaces.
use Rattle.std.specs.Prelude.{◌≡◌, ◌<◌, ◌^◌, ℕ, Bool, cond, List, [], ◌∷◌, ◌++◌, codes, decimal}
use Rattle.flac_json.specs.Texts.{quoted}

-- ---- values (section 3)

mutual
  pub data Json : Type 0 where
    number : ℕ → Json
    text : List ℕ → Json
    truth : Bool → Json
    array : Items → Json
    object : Members → Json

  pub data Items : Type 0 where
    no_items : Items
    item : Json → Items → Items

  pub data Members : Type 0 where
    no_members : Members
    member : (name : List ℕ) → Json → Members → Members

-- the items of a list
abbrev pub items_of : List Json → Items
items_of [] = no_items
items_of (v ∷ vs) = item v (items_of vs)

-- ---- texts (sections 4 to 7)

abbrev mutual
  pub json_text : Json → List ℕ
  json_text (number n) = decimal n
  json_text (text t) = quoted t
  json_text (truth b) = cond b (codes "true") (codes "false")
  json_text (array items) = codes "[" ++ (items_text items ++ codes "]")
  json_text (object members) = codes "{" ++ (members_text members ++ codes "}")

  -- the first item, and each other one after a comma
  pub items_text : Items → List ℕ
  items_text no_items = []
  items_text (item v items) = json_text v ++ more_items items

  pub more_items : Items → List ℕ
  more_items no_items = []
  more_items (item v items) = codes "," ++ (json_text v ++ more_items items)

  -- the same of members
  pub members_text : Members → List ℕ
  members_text no_members = []
  members_text (member name v members) = (quoted name ++ (codes ":" ++ json_text v)) ++ more_members members

  pub more_members : Members → List ℕ
  more_members no_members = []
  more_members (member name v members) = (codes "," ++ (quoted name ++ (codes ":" ++ json_text v))) ++ more_members members

-- a member alone
abbrev pub member_text : (name : List ℕ) → Json → List ℕ
member_text name v = quoted name ++ (codes ":" ++ json_text v)

-- ---- one reading

-- the numbers in a value are of 64 bits
abbrev mutual
  pub AreSmall : Json → Type 0
  AreSmall (number n) = n < 2 ^ 64
  AreSmall (text t) = Unit {0}
  AreSmall (truth b) = Unit {0}
  AreSmall (array items) = AreSmallItems items
  AreSmall (object members) = AreSmallMembers members

  pub AreSmallItems : Items → Type 0
  AreSmallItems no_items = Unit {0}
  AreSmallItems (item v items) = AreSmall v × AreSmallItems items

  pub AreSmallMembers : Members → Type 0
  AreSmallMembers no_members = Unit {0}
  AreSmallMembers (member name v members) = AreSmall v × AreSmallMembers members

-- a text is that of one value
abbrev pub TextsHaveOneReading : Type 0
TextsHaveOneReading = (a b : Json) → AreSmall a → AreSmall b → json_text a ≡ json_text b → a ≡ b
