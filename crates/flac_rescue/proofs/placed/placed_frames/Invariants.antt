use Rattle.std.proofs.Common.{◌≡◌, ◌++◌, drop, map}
use Rattle.flac_whole_pages.specs.Parts.{AreReached}
use Rattle.flac_rescue.specs.Placed.{placed_frame}
use Rattle.flac_rescue.proofs.placed.placed_frames.Given as goal

abbrev pub invariant-loop-frame : goal.invariant-loop-frame
invariant-loop-frame l = record {
  so_far : l.placed.items ++ map (placed_frame l.left) (drop l.frame-index l.frames) ≡ map (placed_frame l.left) l.frames;
  reached : AreReached l.left.parts.items l.reached;
}
