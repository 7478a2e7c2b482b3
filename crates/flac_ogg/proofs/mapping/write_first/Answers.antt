use Rattle.std.proofs.Common.{List, Bool, nat_eq}
use Rattle.std.proofs.lemmas.Result.{err_from_is_err_and}
use Rattle.flac_bits.proofs.Writing.{fails_first, writes_then}
use Rattle.flac_meta.specs.Spelling.{block_spelling}
use Rattle.flac_meta.specs.declared.block.Block.TheVariants as block_of
use Rattle.flac_ogg.specs.Native.{mapping_spelling}
use Rattle.flac_ogg.proofs.Packing.{info_faultless}
use Rattle.flac_ogg.proofs.mapping.write_first.Goals as goal

pub returns-in_err-write_mapping : goal.returns-in_err-write_mapping
returns-in_err-write_mapping g c =
    let p = err_from_is_err_and c.from_residual.result c.from_residual.ensures.1 in
    let block : List Bool = block_spelling (nat_eq c.args.blocks 0) (block_of.StreamInfo c.args.info) in
    rw (p.1, p.2) (rw (← c.header_count.ensures.value) (fails_first (mapping_spelling c.header_count.result) block c.in_err-write_mapping.ensures))

pub returns : goal.returns
returns g c =
    let block : List Bool = block_spelling (nat_eq c.args.blocks 0) (block_of.StreamInfo c.args.info) in
    rw (← c.header_count.ensures.value) (writes_then block c.write_block.new.writer c.write_block.result c.in_ok-write_mapping.ensures (c.write_block.ensures.writes (info_faultless c.args.info)))
