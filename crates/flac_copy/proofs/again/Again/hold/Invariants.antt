use Rattle.std.proofs.Common.{◌-◌, vec_len}
use Rattle.flac_copy.specs.Again.{Holds}
use Rattle.flac_copy.proofs.again.Again.hold.Given as goal

abbrev pub invariant-holding : goal.invariant-holding
invariant-holding g l = Holds g.S.Source l.fn.self l.self

abbrev pub decreases-holding : goal.decreases-holding
decreases-holding g l = l.n - vec_len l.self.held
