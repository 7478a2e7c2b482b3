use Rattle.std.proofs.Common.{◌≡◌, map, take}
use Rattle.flac_raw.proofs.blocks.slices_of.Given as goal

abbrev pub invariant-loop-list : goal.invariant-loop-list
invariant-loop-list l = map (λ s. s.now) l.slices.items ≡ map (λ v. v.items) (take l.list-index l.lists)
