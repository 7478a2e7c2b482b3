use Rattle.std.proofs.Common.{◌≡◌, drop}
use Rattle.flac_edit.specs.Tagged.{comments_among}
use Rattle.flac_edit.proofs.tagging.comments_among.Given as goal

abbrev pub invariant-loop-block : goal.invariant-loop-block
invariant-loop-block l = comments_among (drop l.block-index l.blocks) ≡ comments_among l.blocks
