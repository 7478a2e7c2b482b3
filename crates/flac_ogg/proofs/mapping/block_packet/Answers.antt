use Rattle.std.proofs.Common.{ap, ◌∙◌, nat_lt}
use Rattle.flac_bits.specs.Bits.{bits_of}
use Rattle.flac_bits.specs.Written.{Written}
use Rattle.flac_meta.specs.Spelling.{block_spelling}
use Rattle.flac_native.proofs.Heads.{Blank, head_collected}
use Rattle.flac_native.proofs.WholeBytes.{block_whole}
use Rattle.flac_ogg.proofs.mapping.block_packet.Goals as goal

pub returns-in-Ok-clause-packet : goal.returns-in-Ok-clause-packet
returns-in-Ok-clause-packet c =
    let text = block_spelling c.args.last c.args.block.now in
    let writer = c.new-writer.result in
    let blank : Blank writer = record {
      known = ap (λ (v : Written). v.known) c.new-writer.ensures ∙ ap (λ e. nat_lt e 18446744073709551615) c.new.ensures.errors;
      bits = ap (λ (v : Written). v.bits) c.new-writer.ensures ∙ ap bits_of c.new.ensures.sent;
      unread = ap (λ (v : Written). v.mark.unread) c.new-writer.ensures;
    } in
    head_collected writer _ text c.into_bytes.result blank (block_whole c.args.last c.args.block.now).bytes (c.in-Ok.ensures.writes c.requires) c.into_bytes.ensures.bytes

pub returns-in-Err-clause-memory : goal.returns-in-Err-clause-memory
returns-in-Err-clause-memory c = let fails = c.in-Err.ensures.writes c.requires in c.in_memory.ensures.target fails.reason
