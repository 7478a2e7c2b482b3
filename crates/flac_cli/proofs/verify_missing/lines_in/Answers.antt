use Rattle.flac_cli.proofs.Missing.{ok_of_left, err_of_left}
use Rattle.flac_cli.proofs.verify_missing.lines_in.Goals as goal

pub returns-in-Ok-clause-lines : goal.returns-in-Ok-clause-lines
returns-in-Ok-clause-lines c = ok_of_left c.args.path.now c.args.bytes.items c.in-Ok.left c.in-Ok.ensures c.lines_about.result c.lines_about.ensures.lines

pub returns-in-Ok-clause-unlisted : goal.returns-in-Ok-clause-unlisted
returns-in-Ok-clause-unlisted c = err_of_left c.args.path.now c.args.bytes.items c.in-Ok.left c.in-Ok.ensures c.lines_about.result c.lines_about.ensures.unlisted
