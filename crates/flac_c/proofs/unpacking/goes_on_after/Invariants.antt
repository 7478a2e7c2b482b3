use Rattle.std.proofs.Common.{◌≡◌, take}
use Rattle.flac_pages.specs.Page.{goes_on_after}
use Rattle.flac_c.proofs.unpacking.goes_on_after.Given as goal

abbrev pub invariant-loop-i : goal.invariant-loop-i
invariant-loop-i l = l.goes_on ≡ goes_on_after l.before (take l.i l.lacing)
