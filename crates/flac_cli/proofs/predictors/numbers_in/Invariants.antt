use Rattle.std.proofs.Common.{◌≡◌, [], length, drop}
use Rattle.flac_cli.specs.Predictors.{words_of, numbers_after}
use Rattle.flac_cli.proofs.Listed.{parts_of, words_in}
use Rattle.flac_cli.proofs.predictors.numbers_in.Given as goal

abbrev pub invariant-loop-word : goal.invariant-loop-word
invariant-loop-word l = numbers_after [] (words_of l.line) ≡ numbers_after l.numbers.items (words_in (drop (length l.yielded) (parts_of l.line)))
