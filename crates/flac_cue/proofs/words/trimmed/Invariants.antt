use Rattle.std.proofs.Common.{◌≡◌, ◌+◌, drop, not}
use Rattle.std.specs.List.{position_or_len}
use Rattle.flac_cue.specs.Words.{is_blank}
use Rattle.flac_cue.proofs.words.trimmed.Given as goal

abbrev pub invariant-loop-index : goal.invariant-loop-index
invariant-loop-index l = l.index + position_or_len (λ b. not (is_blank b)) (drop l.index l.text) ≡ position_or_len (λ b. not (is_blank b)) l.text
