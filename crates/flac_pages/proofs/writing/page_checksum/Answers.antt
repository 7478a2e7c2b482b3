use Rattle.std.proofs.Common.{ap, ◌∙◌}
use Rattle.flac_bits.specs.Bits.{bits_of}
use Rattle.flac_pages.proofs.PageSum.{page_sum_is, step}
use Rattle.flac_pages.proofs.writing.page_checksum.Goals as goal

pub returns : goal.returns
returns c =
    page_sum_is (record { head = c.args.head; lacing = c.args.lacing.now; body = c.args.body.now }) _ _ _
    (c.crc32_after-check.ensures ∙ ap (λ bytes. step 0 (bits_of bytes)) c.head_bytes.ensures)
    c.crc32_after-check-2.ensures
    c.crc32_after.ensures
