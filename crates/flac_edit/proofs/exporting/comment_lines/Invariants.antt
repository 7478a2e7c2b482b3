use Rattle.std.proofs.Common.{◌≡◌, ◌++◌, drop}
use Rattle.flac_edit.specs.Exported.{comment_lines}
use Rattle.flac_edit.proofs.exporting.comment_lines.Given as goal

abbrev pub invariant-loop-comment : goal.invariant-loop-comment
invariant-loop-comment l = l.text.items ++ comment_lines (drop l.comment-index l.comments) ≡ comment_lines l.comments
