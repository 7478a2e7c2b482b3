use Rattle.std.proofs.Common.{take}
use Rattle.flac_json.specs.Texts.{escapes}
use Rattle.flac_cli.proofs.Objects.{HasJoined}
use Rattle.flac_cli.proofs.lines.Lines.put_escapes.Given as goal

abbrev pub invariant-loop-byte : goal.invariant-loop-byte
invariant-loop-byte g l = HasJoined g.W.Target escapes l.text l.byte-index l.fn.self.target l.self.target (take l.fn.self.held l.fn.self.bytes) (take l.self.held l.self.bytes)
