use Rattle.std.proofs.Common.{◌≡◌, map, take}
use Rattle.flac_cli.proofs.comments.comments_of.Given as goal

abbrev pub invariant-loop-word : goal.invariant-loop-word
invariant-loop-word l = l.texts.items ≡ map (λ w. w.now) (take l.word-index l.words)
