use Rattle.std.proofs.Common.{◌*◌, ◌+◌, length}
use Rattle.flac_pages.proofs.Stepping.{Kept}
use Rattle.flac_pages.proofs.pages.Pages.find.Given as goal

abbrev pub invariant-loop-self : goal.invariant-loop-self
invariant-loop-self g l = Kept l.initial.self l.self

abbrev pub decreases-loop-self : goal.decreases-loop-self
decreases-loop-self g l = 256 * l.self.most + length l.self.lacing
