-- A line of JSON is that of one list of members.
use Rattle.std.proofs.Common.{◌≡◌, List, [], ◌∷◌, codes, ap, refl, sym, ◌∙◌}
use Rattle.std.proofs.lemmas.List.{append_cancel_right}
use Rattle.flac_json.specs.Json.{Json, object, Members, no_members, member, json_text}
use Rattle.flac_json.proofs.Reading.{texts_have_one_reading}
use Rattle.flac_report.specs.Objects.{Member, members_of}
use Rattle.flac_cli.specs.Objects.{LinesHaveOneReading}

-- the members of an object, as a list
abbrev list_of : Members → List Member
list_of no_members = []
list_of (member name v more) = record { name = name; value = v } ∷ list_of more

abbrev list_in : Json → List Member
list_in (object members) = list_of members
list_in other = []

same_list : (ms : List Member) → list_of (members_of ms) ≡ ms
same_list [] = refl
same_list (m ∷ ms) = ap (λ l. m ∷ l) (same_list ms)

pub lines_have_one_reading : LinesHaveOneReading
lines_have_one_reading a b fa fb is =
    let texts = append_cancel_right (json_text (object (members_of a))) (json_text (object (members_of b))) (codes "\n") is in
    let same = texts_have_one_reading (object (members_of a)) (object (members_of b)) fa fb texts in
    sym (same_list a) ∙ ap list_in same ∙ same_list b
