use Rattle.std.proofs.Common.{◌≡◌, take}
use Rattle.flac_frame.specs.Stereo.{side_of}
use Rattle.flac_frame.proofs.pair.put_side.Given as goal

abbrev pub invariant-loop-i : goal.invariant-loop-i
invariant-loop-i l = take l.i l.side ≡ take l.i (side_of l.left l.right)
