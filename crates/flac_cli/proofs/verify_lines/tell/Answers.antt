use Rattle.flac_cli.proofs.Told.{told_of}
use Rattle.flac_cli.proofs.verify_lines.tell.Goals as goal

pub returns : goal.returns
returns g c = told_of g.E.Target c.write_line.result c.write_line.ensures.kept c.write_line.ensures.known c.write_line.ensures.sent c.write_line.ensures.failed
