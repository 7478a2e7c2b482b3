use Rattle.std.proofs.Common.{◌≡◌, Option, Some}
use Rattle.flac_cli.proofs.ogg_tag.ogg_comments_change.Goals as goal

abbrev some : {X : Type 0} → X → Option X
some x = Some x

inside : {X : Type 0} (x y : X) → some x ≡ some y → x ≡ y
inside x y e = cc

pub returns-in-Ok-clause-kept : goal.returns-in-Ok-clause-kept
returns-in-Ok-clause-kept g c = λ is. c.in-Ok.ensures.kept (inside _ _ is)

pub returns-in-Ok-clause-changed : goal.returns-in-Ok-clause-changed
returns-in-Ok-clause-changed g c = λ is. c.in-Ok.ensures.changed (inside _ _ is)
