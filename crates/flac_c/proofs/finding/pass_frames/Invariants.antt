use Rattle.flac_c.specs.inner.Passing.{Passing}
use Rattle.flac_c.proofs.finding.pass_frames.Given as goal

abbrev pub invariant-loop-done : goal.invariant-loop-done
invariant-loop-done l = Passing l.profile l.bytes l.sample l.done l.fn.cursor l.cursor
