-- For proofs of lines of JSON: the parts of a line.
use Rattle.std.specs.Prelude.{ℕ, List, [], ◌++◌, codes, Option, Some, None}
use Rattle.flac_json.specs.Json.{member_text, more_members}
use Rattle.flac_report.specs.Objects.{Member, members_of}
use Rattle.flac_cli.specs.Objects.{member_of}
use Rattle.flac_cli.specs.declared.json.Member.{Member as Given}

-- a member
abbrev pub text_of : Member → List ℕ
text_of m = member_text m.name m.value

-- further members, each after a comma
abbrev pub more_text : List Member → List ℕ
more_text ms = more_members (members_of ms)

-- a member after a comma, if there is one
abbrev pub next_text : Option Given → List ℕ
next_text None = []
next_text (Some m) = codes "," ++ text_of (member_of m)

-- a member that a program may have
abbrev pub given_member : Option Given → Option Member
given_member None = None
given_member (Some m) = Some (member_of m)
