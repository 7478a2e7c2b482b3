use Rattle.flac_cli.proofs.Printed.{Printed}
use Rattle.flac_cli.proofs.list.write_comments.Given as goal

abbrev pub invariant-loop-comment : goal.invariant-loop-comment
invariant-loop-comment g l = Printed g.W.Target l.fn.lines.target l.lines.target
