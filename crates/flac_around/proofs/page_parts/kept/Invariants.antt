use Rattle.std.proofs.Common.{◌≡◌, ◌≤◌, drop}
use Rattle.flac_around.specs.EmptyPackets.{kept}
use Rattle.flac_around.proofs.KeptValues.{from_here}
use Rattle.flac_around.proofs.page_parts.kept.Given as goal

abbrev pub invariant-loop-i : goal.invariant-loop-i
invariant-loop-i l = record {
  few : l.kept ≤ l.i;
  value : kept l.continues l.lacing ≡ from_here l.i l.kept (kept l.goes_on (drop l.i l.lacing));
}
