use Rattle.std.proofs.Common.{◌≡◌, ◌++◌, drop}
use Rattle.flac_cue.specs.Text.{name_text}
use Rattle.flac_cue.proofs.text.push_name.Given as goal

abbrev pub invariant-loop-byte : goal.invariant-loop-byte
invariant-loop-byte l = l.text.items ++ name_text (drop l.byte-index l.name) ≡ l.fn.text.items ++ name_text l.name
