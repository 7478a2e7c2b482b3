use Rattle.flac_cli.proofs.Told.{told_of}
use Rattle.flac_cli.proofs.verify_lines.tell_bad.Goals as goal

pub returns : goal.returns
returns g c = told_of g.E.Target c.write_fault.result c.write_fault.ensures.kept c.write_fault.ensures.known c.write_fault.ensures.sent c.write_fault.ensures.failed
