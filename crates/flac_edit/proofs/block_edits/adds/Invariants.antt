use Rattle.std.proofs.Common.{◌≡◌, drop}
use Rattle.flac_edit.specs.BlockEdits.{adds}
use Rattle.flac_edit.proofs.block_edits.adds.Given as goal

abbrev pub invariant-loop-picture : goal.invariant-loop-picture
invariant-loop-picture l = adds l.kind (drop l.picture-index l.pictures) ≡ adds l.kind l.pictures
