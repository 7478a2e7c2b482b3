use Rattle.std.proofs.Common.{◌≡◌, length}
use Rattle.flac_cli.proofs.tag.edits_of.Given as goal

abbrev pub invariant-loop-word : goal.invariant-loop-word
invariant-loop-word l = length l.edits.items ≡ l.word-index
