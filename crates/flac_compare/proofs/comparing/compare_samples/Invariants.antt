use Rattle.flac_compare.proofs.SideBySide.{ComparedSoFar}
use Rattle.flac_compare.proofs.comparing.compare_samples.Given as goal

abbrev pub invariant-frames : goal.invariant-frames
invariant-frames g l = ComparedSoFar l.fn.first l.fn.second l.first l.left l.second l.other l.count
