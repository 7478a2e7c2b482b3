use Rattle.std.proofs.Common.{arith}
use Rattle.flac_native.specs.Track.{stand_of, shown}
use Rattle.flac_copy.proofs.PartLemmas.{frame_of_packet}
use Rattle.flac_copy.proofs.parts.read_frame.Goals as goal

pub returns-else-n-packet-clause-frame : goal.returns-else-n-packet-clause-frame
returns-else-n-packet-clause-frame c =
    frame_of_packet (stand_of c.args.track.now) (shown c.take_frame.new.track) c.args.packet.now c.read_bytes-reader.result c.take_frame.new.reader c.in-Ok.n c.read_bytes-reader.ensures c.in-Ok.ensures.taken
    (omega (arith, c.if-n-packet.false))
