-- The line of a file, put together of its parts.
use Rattle.std.proofs.Common.{◌≡◌, ℕ, List, [], ◌∷◌, ◌++◌, codes, map, Option, Some, None, append_assoc, append-nil, refl, sym, ap, ◌∙◌}
use Rattle.flac_json.specs.Json.{Json, text, Members, no_members, member, items_of, items_text, members_text, more_members, member_text}
use Rattle.flac_json.specs.Lines.{Numbered, numbered_json, container_then, file_json, file_line, line_front, line_end}

regroup : (front k items close ending last new : List ℕ) → ((front ++ ((k ++ (items ++ close)) ++ ending)) ++ last) ++ new ≡ (front ++ k) ++ (items ++ (close ++ (ending ++ (last ++ new))))
regroup front k items close ending last new = simp append_assoc

flat : (front items ending : List ℕ) → (123 ∷ ((front ++ ((codes ",\"blocks\":[" ++ (items ++ codes "]")) ++ ending)) ++ codes "}")) ++ codes "\n" ≡ (123 ∷ (front ++ codes ",\"blocks\":[")) ++ (items ++ (codes "]" ++ (ending ++ codes "}\n")))
flat front items ending = ap (λ l. 123 ∷ l) (regroup front (codes ",\"blocks\":[") items (codes "]") ending (codes "}") (codes "\n"))

between : (a b c : List ℕ) → a ++ (b ++ c) ≡ (a ++ (b ++ [])) ++ c
between a b c = sym (append_assoc a (b ++ []) c ∙ ap (λ l. a ++ (l ++ c)) (append-nil b))

-- the members before the blocks
abbrev first_members : (path : List ℕ) → Option (List ℕ) → List ℕ
first_members path container = members_text (member (codes "path") (text path) (container_then container no_members))

front_then : (path : List ℕ) (container : Option (List ℕ)) (members : Members) → members_text (member (codes "path") (text path) (container_then container members)) ≡ first_members path container ++ more_members members
front_then path None members = between (member_text (codes "path") (text path)) [] (more_members members)
front_then path (Some name) members = between (member_text (codes "path") (text path)) (codes "," ++ member_text (codes "container") (text name)) (more_members members)

pub line_parts : (path : List ℕ) (container : Option (List ℕ)) (blocks : List Numbered) (ending : Members) → line_front path container ++ (items_text (items_of (map numbered_json blocks)) ++ line_end ending) ≡ file_line path container blocks ending
line_parts path container blocks ending =
    sym (ap (λ l. (123 ∷ (l ++ codes "}")) ++ codes "\n") (front_then path container _)
    ∙ flat (first_members path container) (items_text (items_of (map numbered_json blocks))) (more_members ending))
