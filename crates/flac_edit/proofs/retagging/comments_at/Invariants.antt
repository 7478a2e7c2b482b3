use Rattle.std.proofs.Common.{◌≡◌, ◌+◌, drop}
use Rattle.flac_edit.specs.Tagged.{comments_at}
use Rattle.flac_edit.proofs.retagging.comments_at.Given as goal

abbrev pub invariant-loop-i : goal.invariant-loop-i
invariant-loop-i l = l.i + comments_at (drop l.i l.blocks) ≡ comments_at l.blocks
