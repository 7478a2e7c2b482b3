use Rattle.std.proofs.Common.{ℕ, List, ◌++◌, ◌∙◌, ap, sym, codes, map}
use Rattle.flac_json.specs.Json.{number, truth, array, member, no_members, items_of, items_text, more_members}
use Rattle.flac_json.specs.Blocks.{track_json, without_zeros}
use Rattle.flac_json.specs.Fields.{bytes_json}
use Rattle.flac_json.proofs.Pushed.{more_both, two_pushed, list_pushed}
use Rattle.flac_json.proofs.blocks.push_sheet.Goals as goal

pub returns : goal.returns
returns c =
    let s = c.args.sheet.now in
    let front = λ (l : List ℕ). member (codes "catalog") (bytes_json l) (member (codes "lead_in") (number s.lead_in) (member (codes "cd") (truth s.cd) no_members)) in
    let last = member (codes "tracks") (array (items_of (map track_json s.tracks))) no_members in
    let tracks = items_text (items_of (map track_json s.tracks)) in
    let listed =
    list_pushed c.push_more.new.text.items c.extend_from_slice.new.self.items c.push_tracks.new.text.items c.push.new.self.items (codes ",\"tracks\":[") tracks c.in_ok-extend_from_slice.ensures.items
    (c.in_ok-push_tracks.ensures ∙ ap (λ ts. c.extend_from_slice.new.self.items ++ items_text (items_of (map track_json ts))) c.as_slice.ensures) c.in_ok-push.ensures.items in
    two_pushed c.args.text.now.items c.push_more.new.text.items c.push.new.self.items (more_members (front (without_zeros s.catalogue))) (more_members last)
    (c.in_ok-push_more.ensures ∙ ap (λ l. c.args.text.now.items ++ more_members (front l)) c.without_zeros.ensures) listed
    ∙ ap (λ l. c.args.text.now.items ++ l) (sym (more_both (front (without_zeros s.catalogue)) last))
