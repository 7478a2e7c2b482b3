use Rattle.std.proofs.Common.{◌∙◌, codes, ap}
use Rattle.flac_report.specs.Entries.{digest_member}
use Rattle.flac_report.specs.Objects.{counted}
use Rattle.flac_cli.proofs.Entries.{none_known, one_known, line_same, sent_as}
use Rattle.flac_cli.proofs.verify_report.write_good.Goals as goal

pub returns : goal.returns
returns g c =
    let rate = c.counted_member-4.ensures ∙ ap (counted (codes "rate")) c.rate_of.ensures in
    let channels = c.counted_member-5.ensures ∙ ap (counted (codes "channels")) c.channels_of.ensures in
    let depth = c.counted_member-6.ensures ∙ ap (counted (codes "depth")) c.depth_of.ensures in
    let digest = c.md5_member.ensures ∙ ap digest_member c.digest-digest.ensures in
    let streams = c.counted_member-9.ensures ∙ ap (counted (codes "streams")) c.several.ensures in
    let stream = one_known c.counted_member-4.result rate (one_known c.counted_member-5.result channels (one_known c.counted_member-6.result depth (one_known c.counted_member-7.result c.counted_member-7.ensures (one_known c.counted_member-8.result c.counted_member-8.ensures
    (one_known c.md5_member.result digest (one_known c.truth_member.result c.truth_member.ensures (one_known c.subset_member.result c.subset_member.ensures (one_known c.id3_member.result c.id3_member.ensures (one_known c.counted_member-9.result streams none_known))))))))) in
    let are = one_known c.text_member.result c.text_member.ensures (one_known c.container_member.result c.container_member.ensures (one_known c.counted_member.result c.counted_member.ensures (one_known c.counted_member-2.result c.counted_member-2.ensures (one_known c.counted_member-3.result c.counted_member-3.ensures stream))))
    in
    let w = c.write_object.ensures in
    sent_as g.P.Target c.args.entry.now _ c.write_object.result (line_same c.path_member.result c.path_member.ensures are) w.kept w.known w.sent w.failed
