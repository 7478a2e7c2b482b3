use Rattle.std.proofs.Common.{◌≡◌, Option, Some}
use Rattle.flac_cli.proofs.edit.edit_changes.Goals as goal

abbrev some : {X : Type 0} → X → Option X
some x = Some x

inside : {X : Type 0} (x y : X) → some x ≡ some y → x ≡ y
inside x y e = cc

pub returns-in-Ok-clause-kept : goal.returns-in-Ok-clause-kept
returns-in-Ok-clause-kept g c = λ is known. c.in-Ok.ensures.kept (inside _ _ is) known
