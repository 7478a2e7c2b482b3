use Rattle.flac_cli.proofs.Entries.{none_known, one_known, line_same, sent_as}
use Rattle.flac_cli.proofs.verify_report.write_unopened.Goals as goal

pub returns : goal.returns
returns g c =
    let are = one_known c.text_member.result c.text_member.ensures (one_known c.counted_member.result c.counted_member.ensures (one_known c.counted_member-2.result c.counted_member-2.ensures (one_known c.counted_member-3.result c.counted_member-3.ensures none_known)))
    in
    let w = c.write_object.ensures in
    sent_as g.P.Target c.args.entry.now _ c.write_object.result (line_same c.path_member.result c.path_member.ensures are) w.kept w.known w.sent w.failed
