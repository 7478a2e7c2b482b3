use Rattle.flac_native.proofs.Lending.{known_more, sent_more}
use Rattle.flac_native.proofs.targets.BorrowedTarget.send.Goals as goal

pub returns-clause-known : goal.returns-clause-known
returns-clause-known g c = known_more g.W.Target (g.W.Target.sent c.args.self.now.began.value) c.args.self.now.target.now c.send.new.self c.args.bytes.now c.send.result c.send.ensures.known c.send.ensures.bytes

pub returns-clause-bytes : goal.returns-clause-bytes
returns-clause-bytes g c = sent_more g.W.Target (g.W.Target.sent c.args.self.now.began.value) c.args.self.now.target.now c.send.new.self c.args.bytes.now c.send.result c.send.ensures.bytes
