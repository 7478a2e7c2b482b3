use Rattle.std.proofs.Common.{◌≡◌, ◌-◌, length, drop}
use Rattle.flac_edit.specs.Lines.{unescaped, bytes_after}
use Rattle.flac_edit.proofs.lines.unescaped.Given as goal

abbrev pub invariant-loop-i : goal.invariant-loop-i
invariant-loop-i l = bytes_after l.bytes.items 0 (drop l.i l.line) ≡ unescaped l.line

abbrev pub decreases-loop-i : goal.decreases-loop-i
decreases-loop-i l = length l.line - l.i
