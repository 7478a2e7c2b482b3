use Rattle.std.proofs.Common.{◌≡◌, Option, Some}
use Rattle.flac_cli.proofs.ogg_edit.ogg_edits_change.Goals as goal

abbrev some : {X : Type 0} → X → Option X
some x = Some x

inside : {X : Type 0} (x y : X) → some x ≡ some y → x ≡ y
inside x y e = cc

pub returns-in-Ok-clause-kept : goal.returns-in-Ok-clause-kept
returns-in-Ok-clause-kept g c = λ is. c.in-Ok.ensures (inside _ _ is)
