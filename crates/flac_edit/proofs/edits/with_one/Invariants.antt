use Rattle.std.proofs.Common.{◌≡◌, ◌++◌, ◌∷◌, drop, cond}
use Rattle.flac_edit.specs.Edited.{without, with_one}
use Rattle.flac_edit.proofs.edits.with_one.Given as goal

abbrev pub invariant-loop-text : goal.invariant-loop-text
invariant-loop-text l =
    l.kept.items ++ cond l.is_there (without l.name (drop l.text-index l.texts)) (with_one l.name (l.name ++ 61 ∷ l.value) (drop l.text-index l.texts)) ≡ with_one l.name (l.name ++ 61 ∷ l.value) l.texts
