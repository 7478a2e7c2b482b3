use Rattle.std.proofs.Common.{ap}
use Rattle.flac_bits.specs.Bits.{bits_of}
use Rattle.flac_ogg.proofs.Headed.{first_header}
use Rattle.flac_ogg.proofs.headers.Headers.new.Goals as goal

pub returns-clause-made : goal.returns-clause-made
returns-clause-made c =
    first_header (record { serial = c.args.serial; sent = c.new-sent.result; held = c.in_ok-held.held }) c.args.packet.now c.bytes_fit.ensures (ap bits_of c.new-sent.ensures.items) c.in_ok-held.ensures.middle c.in_ok-held.ensures.last
    c.in_ok-held.ensures.next
