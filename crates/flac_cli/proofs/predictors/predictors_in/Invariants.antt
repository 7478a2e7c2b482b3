use Rattle.std.proofs.Common.{◌≡◌, ◌+◌, length, drop, map}
use Rattle.std.specs.List.{slice_split}
use Rattle.std.specs.Prelude.{◌==◌}
use Rattle.flac_subframe.specs.format.Handed.{predictor_of}
use Rattle.flac_cli.specs.Predictors.{predictors_in, lines_after}
use Rattle.flac_cli.proofs.predictors.predictors_in.Given as goal

abbrev pub invariant-loop-index : goal.invariant-loop-index
invariant-loop-index l =
    predictors_in l.text ≡ lines_after (length l.yielded + 1) (map predictor_of l.predictors.items) (drop (length l.yielded) (slice_split (λ byte. byte == 10) l.text))
