use Rattle.std.proofs.Common.{◌≡◌, drop}
use Rattle.flac_cue.specs.Reading.{are_printable}
use Rattle.flac_cue.proofs.open.are_printable.Given as goal

abbrev pub invariant-loop-byte : goal.invariant-loop-byte
invariant-loop-byte l = are_printable (drop l.byte-index l.word) ≡ are_printable l.word
