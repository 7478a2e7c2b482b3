use Rattle.std.proofs.Common.{◌≡◌, ◌+◌, drop}
use Rattle.flac_report.specs.inner.Reading.{path_end}
use Rattle.flac_report.proofs.lines.path_end.Given as goal

abbrev pub invariant-loop-index : goal.invariant-loop-index
invariant-loop-index l = l.index + path_end (drop l.index l.text) ≡ path_end l.text
