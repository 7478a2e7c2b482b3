use Rattle.flac_cli.proofs.Told.{entered_of, not_entered, going_same}
use Rattle.flac_cli.proofs.verify_report.enter.Goals as goal

pub returns-then-is_going : goal.returns-then-is_going
returns-then-is_going g c =
    let w = c.write_entry.ensures in
    going_same g.P.Target (entered_of g.P.Target c.write_entry.result c.is_ok.result c.is_ok.ensures.value w.kept w.known w.sent w.failed) c.if-is_going.true

pub returns : goal.returns
returns g c = going_same g.P.Target (not_entered g.P.Target c.args.report.now) c.if-is_going.false
