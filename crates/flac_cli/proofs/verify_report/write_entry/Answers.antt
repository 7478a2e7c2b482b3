use Rattle.std.proofs.Common.{sym}
use Rattle.flac_cli.proofs.Entries.{found_same}
use Rattle.flac_cli.proofs.verify_report.write_entry.Goals as goal

pub returns-in-Good : goal.returns-in-Good
returns-in-Good g c = found_same g.P.Target c.write_good.ensures (sym c.in-Good.is)

pub returns-in-Bad : goal.returns-in-Bad
returns-in-Bad g c = found_same g.P.Target c.write_bad.ensures (sym c.in-Bad.is)

pub returns-in-Unopened : goal.returns-in-Unopened
returns-in-Unopened g c = found_same g.P.Target c.write_unopened.ensures (sym c.in-Unopened.is)
