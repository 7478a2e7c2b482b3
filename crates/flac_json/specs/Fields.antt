-- The members of objects as a program has them.
use Rattle.std.specs.Prelude.{ℕ, cond, List, [], ◌∷◌, codes}
use Rattle.std.specs.Str.{is_utf8}
use Rattle.flac_json.specs.Json.{Json, number, text, truth, object, Members, no_members, member, members_text, json_text}
use Rattle.flac_json.specs.Texts.{all_digits}
use Rattle.flac_json.specs.declared.fields.Field.{Field}
use Rattle.flac_json.specs.declared.fields.Field.TheVariants as field

-- bytes as a text if they are one in UTF-8 (RFC 8259, section 8.1), else as an object of their hexadecimal digits
abbrev pub bytes_json : List ℕ → Json
bytes_json bytes = cond (is_utf8 bytes) (text bytes) (object (member (codes "hex") (text (all_digits bytes)) no_members))

abbrev pub name_of : Field → List ℕ
name_of (field.Number name n) = name.now
name_of (field.Text name t) = name.now
name_of (field.Bytes name t) = name.now
name_of (field.Digits name t) = name.now
name_of (field.Truth name b) = name.now

abbrev pub value_of : Field → Json
value_of (field.Number name n) = number n
value_of (field.Text name t) = text t.now
value_of (field.Bytes name t) = bytes_json t.now
value_of (field.Digits name t) = text (all_digits t.now)
value_of (field.Truth name b) = truth b

-- these fields, and then these members
abbrev pub fields_then : List Field → Members → Members
fields_then [] members = members
fields_then (f ∷ fs) members = member (name_of f) (value_of f) (fields_then fs members)

-- the texts of the members of these fields, and of an object of them
abbrev pub fields_text : Field → List Field → List ℕ
fields_text first more = members_text (fields_then (first ∷ more) no_members)

abbrev pub object_text : Field → List Field → List ℕ
object_text first more = json_text (object (fields_then (first ∷ more) no_members))
