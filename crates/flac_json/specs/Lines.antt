-- The line of a file: an object of JSON (RFC 8259).
use Rattle.std.specs.Prelude.{◌≡◌, ℕ, List, [], ◌∷◌, ◌++◌, codes, map, Option, Some, None, Result, OnOk}
use Rattle.flac_meta.specs.declared.block.Block.{Block}
use Rattle.flac_json.specs.Json.{Json, text, array, object, Members, no_members, member, items_of, json_text, members_text, more_members, items_text}
use Rattle.flac_json.specs.Blocks.{block_json}
use Rattle.flac_json.specs.Fields.{fields_then}

-- a block, and its number in the stream, counted from 0
pub record Numbered : Type 0 where
  pub index : ℕ
  pub block : Block

abbrev pub numbered_json : Numbered → Json
numbered_json n = block_json n.index n.block

-- the container, if it is known, before other members
abbrev pub container_then : Option (List ℕ) → Members → Members
container_then None members = members
container_then (Some name) members = member (codes "container") (text name) members

-- a file: its path, its container, its blocks, and what comes after them
abbrev pub file_json : (path : List ℕ) → Option (List ℕ) → List Numbered → (ending : Members) → Json
file_json path container blocks ending =
    object (member (codes "path") (text path) (container_then container (member (codes "blocks") (array (items_of (map numbered_json blocks))) ending)))

abbrev pub file_line : (path : List ℕ) → Option (List ℕ) → List Numbered → (ending : Members) → List ℕ
file_line path container blocks ending = json_text (file_json path container blocks ending) ++ codes "\n"

-- its parts: what is before the blocks, and what is after them
abbrev pub line_front : (path : List ℕ) → Option (List ℕ) → List ℕ
line_front path container = codes "{" ++ (members_text (member (codes "path") (text path) (container_then container no_members)) ++ codes ",\"blocks\":[")

-- a call that succeeded added all of it but the name of the list of blocks and its bracket
abbrev pub BeginsLine : {X E : Type 0} → (path : List ℕ) → Option (List ℕ) → (before after : List ℕ) → Result X E → Type 0
BeginsLine path container before after result = OnOk result (after ++ codes ",\"blocks\":[" ≡ before ++ line_front path container)

abbrev pub line_end : (ending : Members) → List ℕ
line_end ending = codes "]" ++ (more_members ending ++ codes "}\n")

-- The line of a file is put together of these, with the blocks between them.
abbrev pub LinesArePutTogether : Type 0
LinesArePutTogether =
    (path : List ℕ) (container : Option (List ℕ)) (blocks : List Numbered) (ending : Members)
    → line_front path container ++ (items_text (items_of (map numbered_json blocks)) ++ line_end ending) ≡ file_line path container blocks ending
