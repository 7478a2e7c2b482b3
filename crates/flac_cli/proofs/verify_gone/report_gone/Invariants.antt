use Rattle.std.proofs.Common.{length}
use Rattle.flac_shelf.specs.Records.{left_in}
use Rattle.flac_cli.proofs.Gone.{GoneSoFar}
use Rattle.flac_cli.proofs.verify_gone.report_gone.Given as goal

abbrev pub invariant-gone : goal.invariant-gone
invariant-gone g l = GoneSoFar g.E.Target (left_in l.fn.older) (left_in l.older) l.fn.err l.err l.is_gone

abbrev pub decreases-gone : goal.decreases-gone
decreases-gone g l = length (left_in l.older)
