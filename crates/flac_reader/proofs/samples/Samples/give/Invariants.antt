use Rattle.std.proofs.Common.{◌≡◌, false}
use Rattle.flac_reader.specs.Places.{is_over}
use Rattle.flac_reader.proofs.Sampling.{SamplesSoFar}
use Rattle.flac_reader.proofs.samples.Samples.give.Given as goal

abbrev pub invariant-loop-self : goal.invariant-loop-self
invariant-loop-self g l = (is_over l.initial.self.spot ≡ false) × SamplesSoFar l.initial.self l.self

abbrev pub decreases-loop-self : goal.decreases-loop-self
decreases-loop-self g l = l.self.left
