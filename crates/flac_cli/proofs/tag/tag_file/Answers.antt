use Rattle.std.proofs.Common.{◌≡◌, Option, Some}
use Rattle.flac_cli.proofs.tag.tag_file.Goals as goal

abbrev some : {X : Type 0} → X → Option X
some x = Some x

inside : {X : Type 0} (x y : X) → some x ≡ some y → x ≡ y
inside x y e = cc

pub returns-in-Ok-clause-same : goal.returns-in-Ok-clause-same
returns-in-Ok-clause-same g c = λ is known. c.in-Ok.ensures.same (inside _ _ is) known
