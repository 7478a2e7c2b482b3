use Rattle.std.proofs.Common.{All, take}
use Rattle.flac_subframe.specs.format.Handed.{AreWithin}
use Rattle.flac_native.proofs.found.planes_are_within.Given as goal

abbrev pub invariant-loop-list : goal.invariant-loop-list
invariant-loop-list l = All (λ v. AreWithin l.limit v.items) (take l.list-index l.lists)
