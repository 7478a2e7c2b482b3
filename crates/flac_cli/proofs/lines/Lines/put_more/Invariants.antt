use Rattle.std.proofs.Common.{take}
use Rattle.flac_cli.proofs.Objects.{HasJoined, more_of}
use Rattle.flac_cli.proofs.lines.Lines.put_more.Given as goal

abbrev pub invariant-loop-member : goal.invariant-loop-member
invariant-loop-member g l = HasJoined g.W.Target more_of l.members l.member-index l.fn.self.target l.self.target (take l.fn.self.held l.fn.self.bytes) (take l.self.held l.self.bytes)
