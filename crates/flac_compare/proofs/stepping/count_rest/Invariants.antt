use Rattle.flac_compare.proofs.Counting.{CountsSoFar}
use Rattle.flac_compare.proofs.stepping.count_rest.Given as goal

abbrev pub invariant-frames : goal.invariant-frames
invariant-frames g l = CountsSoFar l.fn.reader l.fn.left l.reader l.left l.count
