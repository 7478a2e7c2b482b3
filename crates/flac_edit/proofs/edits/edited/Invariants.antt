use Rattle.std.proofs.Common.{◌≡◌, drop}
use Rattle.flac_edit.specs.Edited.{all_edited}
use Rattle.flac_edit.proofs.edits.edited.Given as goal

abbrev pub invariant-loop-edit : goal.invariant-loop-edit
invariant-loop-edit l = all_edited (drop l.edit-index l.edits) l.list.items ≡ all_edited l.edits l.comments.list
