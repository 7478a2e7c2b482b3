use Rattle.std.proofs.Common.{◌≡◌, take}
use Rattle.flac_edit.proofs.edits.copied.Given as goal

abbrev pub invariant-loop-text : goal.invariant-loop-text
invariant-loop-text l = l.kept.items ≡ take l.text-index l.texts
