use Rattle.std.proofs.Common.{◌≡◌, ◌++◌, drop}
use Rattle.flac_salvage.specs.Chain.{Rise}
use Rattle.flac_rescue.specs.Gaps.{gaps, limit_of, AreWithin}
use Rattle.flac_rescue.proofs.missing.gaps.Given as goal

abbrev pub invariant-loop-frame : goal.invariant-loop-frame
invariant-loop-frame l = record {
  so_far : l.found.items ++ gaps l.total l.end l.at l.first (drop l.frame-index l.kept) ≡ gaps l.total l.end l.start 0 l.kept;
  within : AreWithin l.end (drop l.frame-index l.kept);
  rise : Rise (limit_of l.total) l.first (drop l.frame-index l.kept);
}
