use Rattle.std.proofs.Common.{◌∙◌, codes, ap}
use Rattle.flac_json.specs.Json.{number, text}
use Rattle.flac_report.specs.Objects.{valued, counted}
use Rattle.flac_cli.proofs.Entries.{none_known, one_known, line_same, sent_as}
use Rattle.flac_cli.proofs.verify_report.write_bad.Goals as goal

pub returns : goal.returns
returns g c =
    let place = c.text_member-2.ensures ∙ ap (λ t. valued (codes "place") (text t)) (c.as_bytes.ensures.value ∙ c.kind_name.ensures) in
    let index = c.counted_member-4.ensures ∙ ap (counted (codes "index")) c.index_of.ensures in
    let error = c.counted_member-5.ensures ∙ ap (λ n. valued (codes "error") (number n)) (c.from.ensures ∙ c.number.ensures) in
    let name = c.text_member-3.ensures ∙ ap (λ t. valued (codes "name") (text t)) c.name_of.ensures in
    let stream = c.counted_member-7.ensures ∙ ap (counted (codes "stream")) c.number_of_stream.ensures in
    let fault = one_known c.text_member-2.result place (one_known c.counted_member-4.result index (one_known c.counted_member-5.result error (one_known c.text_member-3.result name (one_known c.counted_member-6.result c.counted_member-6.ensures (one_known c.counted_member-7.result stream none_known))))) in
    let are = one_known c.text_member.result c.text_member.ensures (one_known c.counted_member.result c.counted_member.ensures (one_known c.counted_member-2.result c.counted_member-2.ensures (one_known c.counted_member-3.result c.counted_member-3.ensures fault)))
    in
    let w = c.write_object.ensures in
    sent_as g.P.Target c.args.entry.now _ c.write_object.result (line_same c.path_member.result c.path_member.ensures are) w.kept w.known w.sent w.failed
