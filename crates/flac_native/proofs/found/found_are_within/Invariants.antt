use Rattle.std.proofs.Common.{All, take}
use Rattle.flac_subframe.specs.format.Handed.{AreWithin}
use Rattle.flac_native.specs.Given.{plane_lists}
use Rattle.flac_native.proofs.found.found_are_within.Given as goal

abbrev pub invariant-loop-lists : goal.invariant-loop-lists
invariant-loop-lists l = All (λ f. All (AreWithin l.limit) (plane_lists f.items)) (take l.lists-index l.found)
