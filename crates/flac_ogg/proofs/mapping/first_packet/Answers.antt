use Rattle.std.proofs.Common.{◌++◌, List, Bool, ap, ◌∙◌, nat_lt, nat_eq}
use Rattle.flac_bits.specs.Bits.{bits_of}
use Rattle.flac_bits.specs.Written.{Written}
use Rattle.flac_meta.specs.Spelling.{block_spelling}
use Rattle.flac_meta.specs.declared.block.Block.TheVariants as block_of
use Rattle.flac_native.proofs.Heads.{Blank, head_collected}
use Rattle.flac_native.proofs.WholeBytes.{block_whole, whole_append}
use Rattle.flac_ogg.specs.Native.{mapping_spelling}
use Rattle.flac_ogg.specs.Writing.{header_count}
use Rattle.flac_ogg.proofs.Packing.{mapping_whole}
use Rattle.flac_ogg.proofs.mapping.first_packet.Goals as goal

pub returns-in-Ok-clause-packet : goal.returns-in-Ok-clause-packet
returns-in-Ok-clause-packet c =
    let mapping : List Bool = mapping_spelling (header_count c.args.blocks) in
    let block : List Bool = block_spelling (nat_eq c.args.blocks 0) (block_of.StreamInfo c.args.info) in
    let writer = c.new-writer.result in
    let blank : Blank writer = record {
      known = ap (λ (v : Written). v.known) c.new-writer.ensures ∙ ap (λ e. nat_lt e 18446744073709551615) c.new.ensures.errors;
      bits = ap (λ (v : Written). v.bits) c.new-writer.ensures ∙ ap bits_of c.new.ensures.sent;
      unread = ap (λ (v : Written). v.mark.unread) c.new-writer.ensures;
    } in
    let whole = whole_append mapping block (mapping_whole (header_count c.args.blocks)) (block_whole (nat_eq c.args.blocks 0) (block_of.StreamInfo c.args.info)) in
    head_collected writer _ (mapping ++ block) c.into_bytes.result blank whole.bytes c.in-Ok.ensures c.into_bytes.ensures.bytes

pub returns-in-Err-clause-memory : goal.returns-in-Err-clause-memory
returns-in-Err-clause-memory c = c.in_memory.ensures.target c.in-Err.ensures.reason
