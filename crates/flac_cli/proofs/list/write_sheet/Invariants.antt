use Rattle.flac_cli.proofs.Printed.{Printed}
use Rattle.flac_cli.proofs.list.write_sheet.Given as goal

abbrev pub invariant-loop-track : goal.invariant-loop-track
invariant-loop-track g l = Printed g.W.Target l.fn.lines.target l.lines.target
