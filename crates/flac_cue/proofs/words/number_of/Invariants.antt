use Rattle.std.proofs.Common.{◌≡◌, drop}
use Rattle.flac_cue.specs.Words.{number_after}
use Rattle.flac_cue.proofs.words.number_of.Given as goal

abbrev pub invariant-loop-byte : goal.invariant-loop-byte
invariant-loop-byte l = number_after l.number (drop l.byte-index l.word) ≡ number_after 0 l.word
