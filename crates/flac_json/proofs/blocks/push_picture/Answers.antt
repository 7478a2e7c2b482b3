use Rattle.std.proofs.Common.{ℕ, List, ◌++◌, ◌∙◌, ap, sym, codes}
use Rattle.flac_json.specs.Json.{number, Members, member, no_members, more_members}
use Rattle.flac_json.specs.Blocks.{data_members, picture_members}
use Rattle.flac_json.specs.Fields.{bytes_json}
use Rattle.flac_json.proofs.Pushed.{more_both, ok_same, then_pushed}
use Rattle.flac_json.proofs.blocks.push_picture.Goals as goal

abbrev front : (kind : ℕ) (media text : List ℕ) (width height depth colours : ℕ) → Members
front kind media text width height depth colours =
    member (codes "picture_type") (number kind) (member (codes "media_type") (bytes_json media) (member (codes "description") (bytes_json text)
    (member (codes "width") (number width) (member (codes "height") (number height) (member (codes "depth") (number depth)
    (member (codes "colors") (number colours) no_members))))))

pub returns : goal.returns
returns c =
    let p = c.args.picture.now in
    let same =
    ap (λ n. front n c.as_slice.result.now c.as_slice-2.result.now c.from-2.result c.from-3.result c.from-4.result c.from-5.result) c.from.ensures
    ∙ ap (λ l. front p.kind l c.as_slice-2.result.now c.from-2.result c.from-3.result c.from-4.result c.from-5.result) c.as_slice.ensures
    ∙ ap (λ l. front p.kind p.media l c.from-2.result c.from-3.result c.from-4.result c.from-5.result) c.as_slice-2.ensures
    ∙ ap (λ n. front p.kind p.media p.text n c.from-3.result c.from-4.result c.from-5.result) c.from-2.ensures
    ∙ ap (λ n. front p.kind p.media p.text p.width n c.from-4.result c.from-5.result) c.from-3.ensures
    ∙ ap (λ n. front p.kind p.media p.text p.width p.height n c.from-5.result) c.from-4.ensures
    ∙ ap (λ n. front p.kind p.media p.text p.width p.height p.depth n) c.from-5.ensures in
    let first = front p.kind p.media p.text p.width p.height p.depth p.colours in
    ok_same c.push_data.result c.args.text.now.items c.push_data.new.text.items (more_members first ++ more_members (data_members c.as_slice-3.result.now)) (more_members (picture_members p))
    (then_pushed c.push_data.result c.args.text.now.items c.push_more.new.text.items c.push_data.new.text.items (more_members first) (more_members (data_members c.as_slice-3.result.now))
    (c.in_ok-push_more.ensures ∙ ap (λ s. c.args.text.now.items ++ more_members s) same) c.push_data.ensures)
    (ap (λ l. more_members first ++ more_members (data_members l)) c.as_slice-3.ensures ∙ sym (more_both first (data_members p.bytes)))
