use Rattle.std.proofs.Common.{◌≡◌, drop}
use Rattle.flac_edit.specs.Exported.{first_picture}
use Rattle.flac_edit.proofs.exporting.first_picture.Given as goal

abbrev pub invariant-loop-block : goal.invariant-loop-block
invariant-loop-block l = first_picture (drop l.block-index l.blocks) ≡ first_picture l.blocks
