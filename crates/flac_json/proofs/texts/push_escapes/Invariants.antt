use Rattle.std.proofs.Common.{◌≡◌, ◌++◌, drop}
use Rattle.flac_json.specs.Texts.{escapes}
use Rattle.flac_json.proofs.texts.push_escapes.Given as goal

abbrev pub invariant-loop-byte : goal.invariant-loop-byte
invariant-loop-byte l = l.text.items ++ escapes (drop l.byte-index l.bytes) ≡ l.fn.text.items ++ escapes l.bytes
