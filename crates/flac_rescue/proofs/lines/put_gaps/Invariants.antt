use Rattle.std.proofs.Common.{◌≡◌, ◌++◌, drop}
use Rattle.std.specs.Prelude.{flat_map}
use Rattle.flac_rescue.specs.Report.{gap_line}
use Rattle.flac_rescue.proofs.lines.put_gaps.Given as goal

abbrev pub invariant-loop-gap : goal.invariant-loop-gap
invariant-loop-gap l = l.out.items ++ flat_map (gap_line l.path l.rate) (drop l.gap-index l.gaps) ≡ l.fn.out.items ++ flat_map (gap_line l.path l.rate) l.gaps
