use Rattle.std.proofs.Common.{◌++◌, [], refl, append-nil}
use Rattle.std.proofs.lemmas.Result.{err_from_is_err_and}
use Rattle.flac_bits.specs.Bits.{bits_of}
use Rattle.flac_bits.proofs.Writing.{towards_start, towards_more, towards_last, towards_fail}
use Rattle.flac_pages.proofs.PageSum.{written_parts}
use Rattle.flac_pages.proofs.writing.write_page.Goals as goal

pub returns-in_err-put_bytes : goal.returns-in_err-put_bytes
returns-in_err-put_bytes g c =
    let p = err_from_is_err_and c.from_residual.result c.from_residual.ensures.1 in
    let l = c.args.lacing.now in let b = c.args.body.now in
    let parts = written_parts c.args.head l b c.head_bytes.result c.page_checksum-sum.result c.head_bytes.ensures c.page_checksum-sum.ensures in
    rw (p.1, p.2) (towards_fail _ (bits_of l ++ (bits_of b ++ [])) parts (towards_start _ c.args.writer.now) c.in_err-put_bytes.ensures)

pub returns-in_err-put_bytes-2 : goal.returns-in_err-put_bytes-2
returns-in_err-put_bytes-2 g c =
    let p = err_from_is_err_and c.from_residual-in_err-put_bytes-2.result c.from_residual-in_err-put_bytes-2.ensures.1 in
    let l = c.args.lacing.now in let b = c.args.body.now in
    let parts = written_parts c.args.head l b c.head_bytes.result c.page_checksum-sum.result c.head_bytes.ensures c.page_checksum-sum.ensures in
    rw (p.1, p.2) (towards_fail _ (bits_of b ++ []) refl (towards_more (bits_of l ++ (bits_of b ++ [])) parts (towards_start _ c.args.writer.now) c.in_ok-put_bytes.ensures) c.in_err-put_bytes-2.ensures)

pub returns : goal.returns
returns g c =
    let l = c.args.lacing.now in let b = c.args.body.now in
    let parts = written_parts c.args.head l b c.head_bytes.result c.page_checksum-sum.result c.head_bytes.ensures c.page_checksum-sum.ensures in
    towards_last c.put_bytes-3.new.self c.put_bytes-3.result (towards_more (bits_of b ++ []) refl (towards_more (bits_of l ++ (bits_of b ++ [])) parts (towards_start _ c.args.writer.now) c.in_ok-put_bytes.ensures) c.in_ok-put_bytes-2.ensures)
    (rw (append-nil (bits_of b)) c.put_bytes-3.ensures)
