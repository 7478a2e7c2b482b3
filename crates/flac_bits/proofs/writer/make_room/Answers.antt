use Rattle.flac_bits.proofs.Standings.{sent_writes}
use Rattle.flac_bits.proofs.writer.make_room.Goals as goal

pub returns-clause-writes : goal.returns-clause-writes
returns-clause-writes g c = sent_writes g.W.Target c.args.target.now c.send_to.new.target c.args.held.now c.send_to.new.self c.send_to.result c.send_to.ensures.sends c.send_to.ensures.kept (λ x. c.send_to.ensures.sent) c.send_to.ensures.write
