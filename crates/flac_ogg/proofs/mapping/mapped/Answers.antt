use Rattle.std.proofs.Common.{◌∷◌, [], ap, ◌∙◌, nat_lt}
use Rattle.flac_bits.specs.Bits.{unsigned, bits_of}
use Rattle.flac_bits.specs.Forms.{joined}
use Rattle.flac_bits.specs.Written.{Written}
use Rattle.flac_native.proofs.Heads.{Blank, head_collected}
use Rattle.flac_ogg.specs.Writing.{header_count}
use Rattle.flac_ogg.proofs.Headed.{mapped_whole}
use Rattle.flac_ogg.proofs.mapping.mapped.Goals as goal

pub returns-in-Ok-clause-packet : goal.returns-in-Ok-clause-packet
returns-in-Ok-clause-packet c =
    let writer = c.new-writer.result in
    let count = header_count c.args.blocks in
    let blank : Blank writer = record {
      known = ap (λ (v : Written). v.known) c.new-writer.ensures ∙ ap (λ e. nat_lt e 18446744073709551615) c.new.ensures.errors;
      bits = ap (λ (v : Written). v.bits) c.new-writer.ensures ∙ ap bits_of c.new.ensures.sent;
      unread = ap (λ (v : Written). v.mark.unread) c.new-writer.ensures;
    } in
    rw (← c.header_count.ensures.value) (head_collected writer _ (joined (unsigned 40 0x7F464C4143 ∷ unsigned 16 0x0100 ∷ unsigned 16 c.header_count.result ∷ bits_of c.args.head.now ∷ [])) c.into_bytes.result blank (mapped_whole c.header_count.result c.args.head.now) c.in-Ok.ensures c.into_bytes.ensures.bytes)

pub returns-in-Err-clause-memory : goal.returns-in-Err-clause-memory
returns-in-Err-clause-memory c = c.in_memory.ensures.target c.in-Err.ensures.reason
