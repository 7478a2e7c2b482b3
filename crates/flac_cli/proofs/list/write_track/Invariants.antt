use Rattle.flac_cli.proofs.Printed.{Printed}
use Rattle.flac_cli.proofs.list.write_track.Given as goal

abbrev pub invariant-loop-index : goal.invariant-loop-index
invariant-loop-index g l = Printed g.W.Target l.fn.lines.target l.lines.target
