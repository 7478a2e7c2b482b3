use Rattle.std.proofs.Common.{◌≡◌, drop}
use Rattle.flac_rescue.specs.Report.{and_samples}
use Rattle.flac_rescue.proofs.lines.samples_of.Given as goal

abbrev pub invariant-loop-frame : goal.invariant-loop-frame
invariant-loop-frame l = and_samples l.sum (drop l.frame-index l.frames) ≡ and_samples 0 l.frames
