use Rattle.std.proofs.Common.{take}
use Rattle.flac_shelf.specs.Shown.{shown}
use Rattle.flac_cli.proofs.Objects.{HasJoined}
use Rattle.flac_cli.proofs.lines.Lines.put_path_bytes.Given as goal

abbrev pub invariant-loop-byte : goal.invariant-loop-byte
invariant-loop-byte g l = HasJoined g.W.Target shown l.path l.byte-index l.fn.self.target l.self.target (take l.fn.self.held l.fn.self.bytes) (take l.self.held l.self.bytes)
