use Rattle.std.proofs.Common.{◌≡◌, drop}
use Rattle.flac_edit.specs.Lines.{ends_name}
use Rattle.flac_edit.proofs.lines.ends_name.Given as goal

abbrev pub invariant-loop-byte : goal.invariant-loop-byte
invariant-loop-byte l = ends_name (drop l.byte-index l.text) ≡ ends_name l.text
