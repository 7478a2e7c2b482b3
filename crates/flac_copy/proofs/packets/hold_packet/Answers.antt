use Rattle.std.proofs.Common.{rules, subst, OnOk}
use Rattle.flac_pages.specs.Packets.{Place}
use Rattle.flac_pages.proofs.ItemReading.{at_there}
use Rattle.flac_copy.specs.Packets.{TakesBytes, HoldsPacket}
use Rattle.flac_copy.proofs.Taken.{held}
use Rattle.flac_copy.proofs.packets.hold_packet.Goals as goal

pub returns : goal.returns
returns g c =
    let p = c.args.pages.now in
    let s = c.packet_bits-bits.result in
    let took = c.take_bytes-read in
    let item = c.end_item-told in
    let at = at_there c.over.result.pages.now p s c.over.ensures.pages (c.packet_bits-bits.ensures.at c.over.ensures.unread.0 c.over.ensures.unread.1) in
    subst (λ (q : Place). OnOk item.result.0 (HoldsPacket p q took.new.bytes.items)) (search rules)
    (held p s took.new.bits item.result.1.now took.new.bytes.items took.result item.result.0 at took.ensures.counts
    (subst (λ l. OnOk took.result (TakesBytes s took.new.bits l took.new.bytes.items)) c.requires took.ensures.taken) item.ensures.same item.ensures.judges item.ensures.after)
