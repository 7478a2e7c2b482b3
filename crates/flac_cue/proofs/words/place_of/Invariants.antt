use Rattle.std.proofs.Common.{◌≡◌, ◌+◌, drop}
use Rattle.flac_cue.specs.Words.{place_of}
use Rattle.flac_cue.proofs.words.place_of.Given as goal

abbrev pub invariant-loop-index : goal.invariant-loop-index
invariant-loop-index l = l.index + place_of l.byte (drop l.index l.text) ≡ place_of l.byte l.text
