use Rattle.std.proofs.Common.{sym, ap, ◌∙◌, get_or}
use Rattle.flac_bits.specs.Bits.{unsigned}
use Rattle.flac_bits.specs.Check.{fed}
use Rattle.flac_bits.proofs.Check.{fed_byte}
use Rattle.flac_bits.proofs.crc_of_bytes.crc32_byte_by_byte.Goals as goal

pub loop-i-preserved : goal.loop-i-preserved
loop-i-preserved c = c.crc32_after_byte-check.ensures ∙ ap (λ k. fed 32 79764919 k (unsigned 8 (get_or c.args.bytes.now c.loop-i.i 0))) c.loop-i.invariant ∙ sym (fed_byte 32 79764919 c.args.check c.loop-i.i c.args.bytes.now c.loop-i-test.true)
