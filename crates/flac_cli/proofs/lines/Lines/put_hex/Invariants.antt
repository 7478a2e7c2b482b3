use Rattle.flac_cli.proofs.Printed.{Printed}
use Rattle.flac_cli.proofs.lines.Lines.put_hex.Given as goal

abbrev pub invariant-loop-byte : goal.invariant-loop-byte
invariant-loop-byte g l = Printed g.W.Target l.fn.self.target l.self.target
