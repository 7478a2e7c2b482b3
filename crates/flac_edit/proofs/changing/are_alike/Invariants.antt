use Rattle.std.proofs.Common.{◌≡◌, length}
use Rattle.flac_edit.proofs.Alike.{AreAlikeFront}
use Rattle.flac_edit.proofs.changing.are_alike.Given as goal

abbrev pub invariant-loop-i : goal.invariant-loop-i
invariant-loop-i l = (length l.ones ≡ length l.others) × AreAlikeFront l.ones l.others l.i
