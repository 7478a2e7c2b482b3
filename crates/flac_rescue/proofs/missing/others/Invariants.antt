use Rattle.std.proofs.Common.{◌≡◌, ◌≤◌, ◌++◌, drop, length}
use Rattle.flac_rescue.specs.Gaps.{others}
use Rattle.flac_rescue.proofs.missing.others.Given as goal

abbrev pub invariant-loop-frame : goal.invariant-loop-frame
invariant-loop-frame l = record {
  so_far : l.left.items ++ others (drop l.frame-index l.found) (drop l.index l.kept) ≡ others l.found l.kept;
  within : l.index ≤ length l.kept;
}
