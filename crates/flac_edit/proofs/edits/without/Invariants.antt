use Rattle.std.proofs.Common.{◌≡◌, ◌++◌, drop}
use Rattle.flac_edit.specs.Edited.{without}
use Rattle.flac_edit.proofs.edits.without.Given as goal

abbrev pub invariant-loop-text : goal.invariant-loop-text
invariant-loop-text l = l.kept.items ++ without l.name (drop l.text-index l.texts) ≡ without l.name l.texts
