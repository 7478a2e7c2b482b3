use Rattle.std.proofs.Common.{◌≡◌, ◌++◌, drop, map}
use Rattle.flac_whole_pages.specs.Parts.{AreReached}
use Rattle.flac_rescue.specs.Placed.{placed_gap}
use Rattle.flac_rescue.proofs.placed.placed_gaps.Given as goal

abbrev pub invariant-loop-gap : goal.invariant-loop-gap
invariant-loop-gap l = record {
  so_far : l.placed.items ++ map (placed_gap l.left) (drop l.gap-index l.gaps) ≡ map (placed_gap l.left) l.gaps;
  reached : AreReached l.left.parts.items l.reached;
}
