use Rattle.std.proofs.Common.{◌≡◌, ◌++◌, drop}
use Rattle.flac_edit.specs.Edited.{without_pair}
use Rattle.flac_edit.proofs.edits.without_pair.Given as goal

abbrev pub invariant-loop-text : goal.invariant-loop-text
invariant-loop-text l = l.kept.items ++ without_pair l.name l.value (drop l.text-index l.texts) ≡ without_pair l.name l.value l.texts
