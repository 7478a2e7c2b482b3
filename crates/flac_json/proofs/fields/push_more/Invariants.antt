use Rattle.std.proofs.Common.{◌≡◌, ◌++◌, drop}
use Rattle.flac_json.specs.Json.{more_members, no_members}
use Rattle.flac_json.specs.Fields.{fields_then}
use Rattle.flac_json.proofs.fields.push_more.Given as goal

abbrev pub invariant-loop-field : goal.invariant-loop-field
invariant-loop-field l = l.text.items ++ more_members (fields_then (drop l.field-index l.fields) no_members) ≡ l.fn.text.items ++ more_members (fields_then l.fields no_members)
