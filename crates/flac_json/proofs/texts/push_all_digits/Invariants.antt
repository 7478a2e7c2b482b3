use Rattle.std.proofs.Common.{◌≡◌, ◌++◌, drop}
use Rattle.flac_json.specs.Texts.{all_digits}
use Rattle.flac_json.proofs.texts.push_all_digits.Given as goal

abbrev pub invariant-loop-byte : goal.invariant-loop-byte
invariant-loop-byte l = l.text.items ++ all_digits (drop l.byte-index l.bytes) ≡ l.fn.text.items ++ all_digits l.bytes
