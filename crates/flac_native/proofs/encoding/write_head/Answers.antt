use Rattle.std.proofs.Common.{◌∷◌, ◌++◌}
use Rattle.std.proofs.lemmas.Result.{err_from_is_err_and}
use Rattle.flac_bits.specs.Bits.{unsigned}
use Rattle.flac_bits.proofs.Writing.{fails_first, writes_then}
use Rattle.flac_meta.specs.declared.block.Block.TheVariants as block_of
use Rattle.flac_native.specs.Seeking.{table_of}
use Rattle.flac_native.specs.Writing.{blocks_spelling}
use Rattle.flac_native.proofs.encoding.write_head.Goals as goal

pub returns-in_err-put : goal.returns-in_err-put
returns-in_err-put g c =
    let p = err_from_is_err_and c.from_residual.result c.from_residual.ensures.1 in
    rw (p.1, p.2) (fails_first (unsigned 32 0x664C6143) (blocks_spelling (block_of.StreamInfo c.args.info ∷ c.args.list.now ++ table_of c.args.points.items)) c.in_err-put.ensures)

pub returns : goal.returns
returns g c = writes_then (blocks_spelling (block_of.StreamInfo c.args.info ∷ c.args.list.now ++ table_of c.args.points.items)) c.write_blocks.new.writer c.write_blocks.result c.in_ok-put.ensures c.write_blocks.ensures
