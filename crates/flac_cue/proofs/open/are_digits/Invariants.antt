use Rattle.std.proofs.Common.{◌≡◌, drop}
use Rattle.flac_cue.specs.Reading.{are_digits}
use Rattle.flac_cue.proofs.open.are_digits.Given as goal

abbrev pub invariant-loop-byte : goal.invariant-loop-byte
invariant-loop-byte l = are_digits (drop l.byte-index l.word) ≡ are_digits l.word
