use Rattle.std.proofs.Common.{◌≡◌, ◌+◌, drop}
use Rattle.std.specs.List.{position_or_len}
use Rattle.flac_cue.specs.Words.{is_blank}
use Rattle.flac_cue.proofs.words.blank_place.Given as goal

abbrev pub invariant-loop-index : goal.invariant-loop-index
invariant-loop-index l = l.index + position_or_len is_blank (drop l.index l.text) ≡ position_or_len is_blank l.text
