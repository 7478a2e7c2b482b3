use Rattle.std.proofs.Common.{take}
use Rattle.flac_raw.specs.Reading.{IsChannel}
use Rattle.flac_raw.proofs.raw.put_each.Given as goal

abbrev pub invariant-loop-i : goal.invariant-loop-i
invariant-loop-i l = IsChannel l.piece l.i l.stride l.start l.width (take l.i l.places)
