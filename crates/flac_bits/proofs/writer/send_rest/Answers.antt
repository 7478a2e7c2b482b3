use Rattle.std.proofs.Common.{[]}
use Rattle.flac_bits.proofs.Standings.{kept_writes, sent_writes, whole_sent}
use Rattle.flac_bits.proofs.Writing.{adds_then, writes_then}
use Rattle.flac_bits.proofs.writer.send_rest.Goals as goal

pub returns-clause-writes : goal.returns-clause-writes
returns-clause-writes g c =
    let settled = kept_writes g.W.Target c.make_room.new.target c.make_room.new.held c.settle.new.self c.settle.ensures.kept in
    writes_then [] _ c.send_to.result (adds_then c.in_ok-make_room.ensures.writes settled)
    (sent_writes g.W.Target c.make_room.new.target c.send_to.new.target c.settle.new.self c.send_to.new.self c.send_to.result c.send_to.ensures.sends c.send_to.ensures.kept (λ x. c.send_to.ensures.sent) c.send_to.ensures.write)

pub returns-clause-whole : goal.returns-clause-whole
returns-clause-whole g c = whole_sent g.W.Target c.args.target.now c.send_to.new.target c.args.held.now c.make_room.new.held c.settle.new.self c.send_to.result c.in_ok-make_room.ensures.writes c.settle.ensures.kept c.settle.ensures.left c.send_to.ensures.sends
