use Rattle.flac_cli.proofs.Told.{told_of}
use Rattle.flac_cli.proofs.verify_gone.tell_gone.Goals as goal

pub returns : goal.returns
returns g c = told_of g.E.Target c.write_gone.result c.write_gone.ensures.kept c.write_gone.ensures.known c.write_gone.ensures.sent c.write_gone.ensures.failed
