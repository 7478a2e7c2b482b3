use Rattle.std.proofs.Common.{true, Ok, sym, subst}
use Rattle.flac_pages.specs.Packets.{Place, Begins}
use Rattle.flac_pages.proofs.Exits.{waits_begins, waits_begun}
use Rattle.flac_pages.proofs.pages.Pages.next_packet.Goals as goal

pub returns-then-is_last-clause-begins : goal.returns-then-is_last-clause-begins
returns-then-is_last-clause-begins g c = waits_begins c.args.self.now c.loop-self.self c.end.new.self c.end.result c.loop-self.invariant c.end.ensures.begins

pub returns-clause-begins : goal.returns-clause-begins
returns-clause-begins g c =
    subst (λ (p : Place). Begins c.args.self.now p (Ok true)) (sym c.begin.ensures) (waits_begun c.args.self.now c.loop-self.self c.loop-self.invariant (c.is_read.ensures.some c.loop-self-test.false))
