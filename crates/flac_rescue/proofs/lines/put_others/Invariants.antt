use Rattle.std.proofs.Common.{◌≡◌, ◌++◌, drop}
use Rattle.std.specs.Prelude.{flat_map}
use Rattle.flac_rescue.specs.Report.{other_line}
use Rattle.flac_rescue.proofs.lines.put_others.Given as goal

abbrev pub invariant-loop-frame : goal.invariant-loop-frame
invariant-loop-frame l = l.out.items ++ flat_map (other_line l.path) (drop l.frame-index l.others) ≡ l.fn.out.items ++ flat_map (other_line l.path) l.others
