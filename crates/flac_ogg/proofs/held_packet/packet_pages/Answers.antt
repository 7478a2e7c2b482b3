use Rattle.std.proofs.Common.{Ok, ap, ◌∙◌, nat_lt}
use Rattle.flac_bits.specs.Bits.{bits_of}
use Rattle.flac_bits.specs.Written.{Written}
use Rattle.flac_native.proofs.Heads.{Blank, head_collected}
use Rattle.flac_pages.specs.Written.{packet_spelling}
use Rattle.flac_ogg.proofs.Listing.{packet_whole}
use Rattle.flac_ogg.proofs.held_packet.packet_pages.Goals as goal

pub returns-in_ok-bytes-in-Ok-clause-pages : goal.returns-in_ok-bytes-in-Ok-clause-pages
returns-in_ok-bytes-in-Ok-clause-pages c =
    let writer = c.new-writer.result in
    let blank : Blank writer = record {
      known = ap (λ (v : Written). v.known) c.new-writer.ensures ∙ ap (λ e. nat_lt e 18446744073709551615) c.new.ensures.errors;
      bits = ap (λ (v : Written). v.bits) c.new-writer.ensures ∙ ap bits_of c.new.ensures.sent;
      unread = ap (λ (v : Written). v.mark.unread) c.new-writer.ensures;
    } in
    head_collected writer _ (packet_spelling c.args.marks c.args.packet.now) (Ok c.in_ok-bytes-in-Ok.bytes) blank (packet_whole c.args.marks c.args.packet.now).bytes c.in-Ok.ensures.wrote c.in_ok-bytes-in-Ok.ensures.bytes
