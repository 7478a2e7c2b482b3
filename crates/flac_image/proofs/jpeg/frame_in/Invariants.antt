use Rattle.std.proofs.Common.{◌≡◌, length}
use Rattle.flac_image.specs.Jpeg.{frame_in}
use Rattle.flac_image.proofs.jpeg.frame_in.Given as goal

abbrev pub invariant-loop-left : goal.invariant-loop-left
invariant-loop-left l = frame_in l.left l.rest ≡ frame_in (length l.bytes) l.bytes

abbrev pub decreases-loop-left : goal.decreases-loop-left
decreases-loop-left l = l.left
