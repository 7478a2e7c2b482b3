use Rattle.std.proofs.Common.{◌≡◌, ◌+◌, [], length, drop}
use Rattle.std.specs.List.{slice_split}
use Rattle.std.specs.Prelude.{◌==◌}
use Rattle.flac_edit.specs.Lines.{lines_after}
use Rattle.flac_edit.proofs.lines.comments_between.Given as goal

abbrev pub invariant-loop-index : goal.invariant-loop-index
invariant-loop-index l =
    lines_after 1 [] (slice_split (λ byte. byte == 10) l.text) ≡ lines_after (length l.yielded + 1) l.comments.items (drop (length l.yielded) (slice_split (λ byte. byte == 10) l.text))
