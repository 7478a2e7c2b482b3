use Rattle.std.proofs.Common.{◌≡◌, ◌++◌, drop}
use Rattle.flac_edit.specs.Exported.{escaped}
use Rattle.flac_edit.proofs.exporting.push_all_escaped.Given as goal

abbrev pub invariant-loop-byte : goal.invariant-loop-byte
invariant-loop-byte l = l.text.items ++ escaped (drop l.byte-index l.bytes) ≡ l.fn.text.items ++ escaped l.bytes
