use Rattle.std.proofs.Common.{◌+◌, length}
use Rattle.flac_pages.proofs.PacketEnds.{Passes}
use Rattle.flac_pages.proofs.pages.Pages.end_packet.Given as goal

abbrev pub invariant-loop-self : goal.invariant-loop-self
invariant-loop-self g l = Passes l.initial.self l.self

abbrev pub decreases-loop-self : goal.decreases-loop-self
decreases-loop-self g l = l.self.most + length l.self.body
