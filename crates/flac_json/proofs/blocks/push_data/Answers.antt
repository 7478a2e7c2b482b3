use Rattle.std.proofs.Common.{ap, codes, length, ℕ, List}
use Rattle.md5.specs.Md5.{md5}
use Rattle.flac_json.specs.Json.{number, text, member, no_members, more_members}
use Rattle.flac_json.specs.Texts.{all_digits}
use Rattle.flac_json.proofs.Pushed.{ok_same}
use Rattle.flac_json.proofs.blocks.push_data.Goals as goal

pub returns : goal.returns
returns c =
    let members = λ (d : List ℕ). member (codes "data_length") (number (length c.args.bytes.now)) (member (codes "data_md5") (text (all_digits d)) no_members) in
    ok_same c.push_more.result c.args.text.now.items c.push_more.new.text.items (more_members (members c.digest-digest.result)) (more_members (members (md5 c.args.bytes.now))) c.push_more.ensures
    (ap (λ d. more_members (members d)) c.digest-digest.ensures)
