use Rattle.flac_cli.proofs.Told.{told_of}
use Rattle.flac_cli.proofs.verify_missing.tell_all.Goals as goal

pub returns : goal.returns
returns g c = let s = c.send_all.ensures.sends in told_of g.E.Target c.send_all.result s.kept s.known s.sent s.rises
