use Rattle.flac_cli.proofs.Printed.{Printed}
use Rattle.flac_cli.proofs.lines.Lines.put_parts.Given as goal

abbrev pub invariant-loop-part : goal.invariant-loop-part
invariant-loop-part g l = Printed g.W.Target l.fn.self.target l.self.target
