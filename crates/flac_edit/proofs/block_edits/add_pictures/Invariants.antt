use Rattle.std.proofs.Common.{◌≡◌, ◌++◌, map, drop}
use Rattle.flac_edit.specs.BlockEdits.{picture_block}
use Rattle.flac_edit.proofs.block_edits.add_pictures.Given as goal

abbrev pub invariant-loop-picture : goal.invariant-loop-picture
invariant-loop-picture l = l.list.items ++ map picture_block (drop l.picture-index l.pictures) ≡ l.fn.list.items ++ map picture_block l.pictures
