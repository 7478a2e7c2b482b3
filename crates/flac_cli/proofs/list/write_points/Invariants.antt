use Rattle.flac_cli.proofs.Printed.{Printed}
use Rattle.flac_cli.proofs.list.write_points.Given as goal

abbrev pub invariant-loop-point : goal.invariant-loop-point
invariant-loop-point g l = Printed g.W.Target l.fn.lines.target l.lines.target
