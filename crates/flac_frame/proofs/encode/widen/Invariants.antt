use Rattle.std.proofs.Common.{◌≡◌, take}
use Rattle.flac_frame.proofs.encode.widen.Given as goal

abbrev pub invariant-loop-i : goal.invariant-loop-i
invariant-loop-i l = take l.i l.out ≡ take l.i l.samples
