use Rattle.std.proofs.Common.{◌≡◌, drop}
use Rattle.flac_cue.specs.Reading.{are_alphanumeric}
use Rattle.flac_cue.proofs.open.are_alphanumeric.Given as goal

abbrev pub invariant-loop-byte : goal.invariant-loop-byte
invariant-loop-byte l = are_alphanumeric (drop l.byte-index l.word) ≡ are_alphanumeric l.word
